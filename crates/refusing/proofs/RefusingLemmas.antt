-- What the walks of `allocate` and `deallocate` share. Assumes `Logic`.
use Rattle.std.proofs.Common.{ℕ, ◌+◌, [], ◌∷◌, refl}
use Rattle.std.proofs.alloc.Calls.{Al, α, seen}
use seplogic.Ra.Ura.{Ura}
use base.Logic.{ent, sep, id⊢}
use base.Fml.{Lft}
use prog.Memory.{size, align, up}
use types.Logic.{Logic, sem}
use types.Kit.{‵, ◌$◌, ◌∵◌, !, qed, done, use1, move, keep, fsplit}
use denote.Builtin.{usize, RefOf}
use denote.Exit.{yes}
use denote.Memory.{hidden_shr}
use denote.Opens.{unhide}
use denote.Param.{param}
use denote.Signature.{Slot, plain}
use denote.Triple.Walked.{Goes, Goes-dropped, stay_dropped}
use Rattle.refusing.specs.contracts.Refusing as refusing
use Rattle.refusing.specs.contracts.Requests as requests
use Rattle.refusing.specs.declared.Refusing.{Refusing}

abbrev word : Slot 2
word = plain (λ _. usize)

-- of a `usize` nothing is left when the call ends, and so of `self`
pub word_goes : {M : Type 1} {𝓤 : Ura M} (𝓛 : Logic 𝓤) → Goes 𝓛 2 word yes (stay_dropped word yes)
word_goes 𝓛 = Goes-dropped 𝓛 2 word yes (λ κs x f. refl)

module _ (Z : Al) where
  abbrev self : Slot 2
  self = RefOf (0 ∷ []) tt (plain (λ _. refusing.the_row (param 0 Z.row))) (λ _. tt)

  -- the addresses of the fields of a `Refusing` at p
  abbrev pub inner_at : ℕ × ℕ → ℕ × ℕ
  inner_at p = (p.0, p.1 + up (align (α Z)) 0)

  abbrev pub requests_at : ℕ × ℕ → ℕ × ℕ
  requests_at p = (p.0, p.1 + up 8 (up (align (α Z)) 0 + size (α Z)))

  module _ {M : Type 1} {𝓤 : Ura M} (𝓛 : Logic 𝓤) where
    pub self_goes : Goes 𝓛 2 self yes (stay_dropped self yes)
    self_goes = Goes-dropped 𝓛 2 self yes (λ κs x f. refl)

    -- a `&` to a `Refusing` is one to each of its fields
    pub to_fields : (κ : Lft) (p : ℕ × ℕ) (heap : Refusing Z.row.Denot)
        → ent 𝓤 (sem 𝓛 (hidden_shr (refusing.the_row (param 0 Z.row)) κ heap p.0 p.1))
        (sep 𝓤 (sem 𝓛 (seen Z κ (inner_at p) heap.inner)) (sem 𝓛 (hidden_shr requests.the_row κ heap.requests (requests_at p).0 (requests_at p).1)))
    to_fields κ p heap = qed 𝓛 (‵ (hidden_shr (refusing.the_row (param 0 Z.row)) κ heap p.0 p.1) ∷ []) ∵
        unhide ! $ fsplit ! $ fsplit ! $ use1 𝓛 (‵ (seen Z κ (inner_at p) heap.inner)) (id⊢ 𝓤 _) $ move ! (1 ∷ []) $ fsplit ! $ keep ! (2 ∷ 0 ∷ []) $ done !
