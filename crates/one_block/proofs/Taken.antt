-- The two cases of the result of `take`, and a block as room for a type. Assumes `Logic`.
use Rattle.std.proofs.Common.{◌≡◌, ℕ, ◌^◌, ◌<◌, ◌≤◌, List, [], ◌∷◌, ◌++◌, IfSome, None, Some, refl, sym, ap, subst, ◌∙◌, arith}
use seplogic.Ra.Ura.{Ura}
use mir.Syntax.{Ty, Width, w8, w16, w32, w64, w128}
use mir.Val.{Val, vcons, vnil, of_list, bytes}
use base.Logic.{ent, sep}
use base.Fml.{Fml, fex, fwand, froom}
use prog.Memory.{size, align, capped}
use prog.Align.{Dv, align_w, align-bytes}
use prog.Capped.{capped_is, capped_small}
use types.Logic.{Logic, sem}
use types.Kit.{Item, Goal, Seq, ‵, ◌⊛◌, ◌$◌, ◌∵◌, !, qed, move, drop, use1, split, frame, rewrite, fsplit, fpick, fpack, feq_l, done}
use types.Match.{live}
use denote.RattleType.{RattleType}
use denote.RawPtr.{Ptr, block_ptr}
use denote.Shadow.{pure_l}
use denote.Steps.{only}
use Rattle.std.specs.contracts.option.Option as option
use Rattle.linked_list_allocator.specs.Region.{Region, block_size, IsBlock}
use Rattle.linked_list_allocator.specs.Ownership.{bytes_at, block_token}
use Rattle.one_block.specs.contracts.block.MemoryBlock as block
use Rattle.linked_list_allocator.proofs.Values.{sized_val, sized_own, sized_told}
use Rattle.linked_list_allocator.proofs.Taken.{hands_out}

abbrev pub Taken : RattleType
Taken = option.the_row block.the_row

abbrev pub Told : ℕ → ℕ → Taken.Denot → Type 0
Told n a x = IfSome x (λ b. (b.size ≡ block_size n) × (n < 2 ^ 63) × (a ≤ 16))

-- the right to free the block for a τ at p
abbrev pub token : Ty → Ptr → Fml
token τ p = fex Region (λ r. block_token r τ p)

pub hands_it_out : {M : Type 1} {𝓤 : Ura M} (𝓛 : Logic 𝓤) (r : Region) (τ : Ty) (at n a : ℕ) → capped (size τ) ≡ n → capped (align τ) ≡ a → IsBlock r (block_ptr r.block at) at (block_size n) → n < 2 ^ 63 → a ≤ 16
    → ent 𝓤 (sem 𝓛 (bytes_at (block_ptr r.block at) (block_size n))) (sep 𝓤 (𝓛.H.room τ r.block at) (sem 𝓛 (token τ (block_ptr r.block at))))
hands_it_out {𝓤 = 𝓤} 𝓛 r τ at n a sized aligned placed small slim =
    let p : Ptr = block_ptr r.block at in
    qed 𝓛 (‵ (bytes_at p (block_size n)) ∷ []) ∵ use1 𝓛 (‵ (froom τ r.block at) ⊛ ‵ (block_token r τ p)) (hands_out 𝓛 r τ at n a sized aligned placed small slim) $ split ! $ frame ! $
    fpack ! Region (λ s. block_token s τ p) r $ done !

module _ {M : Type 1} {𝓤 : Ura M} {𝓛 : Logic 𝓤} {K : Type 0} {Γ : List (Item 𝓤)} {G : Goal 𝓤 𝓛.H} where
  pub taken : K → (n a : ℕ) (x : Taken.Denot) (v : Val) → Told n a x
      → ((r : Region) (at : ℕ) → IsBlock r (block_ptr r.block at) at (block_size n) → block_size n < 2 ^ 64 → n < 2 ^ 63 → a ≤ 16 → v ≡ live 1 (vcons (sized_val (block_ptr r.block at) (block_size n)) vnil)
      → Seq K 𝓛 (‵ (bytes_at (block_ptr r.block at) (block_size n)) ∷ Γ) G) → (v ≡ live 0 vnil → Seq K 𝓛 Γ G) → Seq K 𝓛 (‵ (Taken.own_val x (v ∷ [])) ∷ Γ) G
  taken t n a None v told some none =
      fpick t (λ us. fsplit t $ feq_l t (λ is. fpick t (λ vss. fsplit t $ feq_l t (λ is'. drop t $ none (ap only is ∙ ap (λ (ws : List Val). live 0 (of_list ws)) is')))))
  taken t n a (Some w) v told some none =
      fpick t (λ us. fsplit t $ feq_l t (λ is. fpick t (λ vss. fsplit t $ feq_l t (λ is'. fsplit t $ move t (1 ∷ []) $ drop t $ fsplit t $ pure_l t (sized_own w.ptr w.size vss.0) (λ s.
      let parts = sized_told w.ptr w.size vss.0 s in
      let lies : w.ptr ≡ block_ptr w.region.block w.at = w.placed.0 in
      let placed : IsBlock w.region (block_ptr w.region.block w.at) w.at (block_size n) = subst (λ (u : Ptr × ℕ). IsBlock w.region u.0 w.at u.1) (λ i. (lies i, told.0 i)) w.placed in
      rewrite t 0 (λ (u : Ptr × ℕ). ‵ (bytes_at u.0 u.1)) (λ i. (lies i, told.0 i)) refl $
      some w.region w.at placed (subst (λ (k : ℕ). k < 2 ^ 64) told.0 parts.1) told.1 told.2
      (ap only is ∙ ap (λ (xs : List Val). live 1 (of_list xs)) (is' ∙ ap (λ (xs : List Val). xs ++ []) parts.0) ∙ (λ i. live 1 (vcons (sized_val (lies i) (told.0 i)) vnil))))))))
