-- The block goes back to the inner allocator. Assumes `Logic`.
use Rattle.std.proofs.Common.{◌≡◌, List, [], ◌∷◌, refl, w64}
use Rattle.std.proofs.raw_atomic.Walks.{proved, leaves}
use Rattle.std.proofs.alloc.Calls.{Al, seen, token, Gives, at_gives, Gives-goes, Gives-Gives}
use Rattle.std.specs.Allocator.{HasLayout, owned_block}
use mir.Syntax.{a_type, dnil, dcons}
use mir.MapTy.{inst_fn}
use mir.Val.{Val, vunit}
use base.Logic.{fst∗, never}
use base.Fml.{ftrue, flft}
use prog.Wp.{WpFn}
use contract.BorrowLft.{◌⊑◌, ⊑_trans}
use contract.Monad.{fact}
use contract.Running.{tables}
use types.Logic.{sem}
use types.Kit.{‵, raw, ◌⊛◌, later, given, prop, ◌$◌, ◌∵◌, !, qed, by, move, keep, use1, split, split3, join, learn, fsplit, fjoin, feq_i, regoal, group, await}
use types.Run.{stop, fld, addr, no_more, and_then, of_opd, unit_lit, returns, enter}
use types.ByLocal.{alloc_all, pass_all, free_all, look_at, get, through, sets, lands_as}
use denote.Builtin.{RawPtr}
use denote.Exit.{yes}
use denote.Memory.{hidden_shr}
use denote.Param.{bounded}
use denote.Plain.{uint_vals, uint_Tells}
use denote.RattleType.{owns}
use denote.RawPtr.{Ptr, block_ptr, null_ptr, in_a_block, rawptr_vals, rawptr_Tells}
use denote.Ref.{shr_vals}
use denote.Signature.{plain, types_at}
use denote.Steps.{heard, nothing}
use denote.Triple.Call.{calls_at}
use denote.Triple.Table.{framed}
use denote.Triple.Walked.{Stays, stay_dropped, Goes-dropped, walk_of}
use Rattle.refusing.proofs.RefusingLemmas.{word_goes, self_goes, inner_at, requests_at, to_fields}
use Rattle.refusing.specs.contracts.Requests as requests
use Rattle.refusing.specs.contracts.RefusingAllocator.deallocate as f
use Rattle.refusing.proofs.RefusingAllocator.deallocate.Statement.{statement}
use Rattle.refusing.proofs.RefusingAllocator.deallocate.Code as code

pub deallocate_spec : {M : Type 1} → statement M
deallocate_spec 𝓤 𝓛 𝓜 𝓡 wired B laws ghosts d drops met _ =
    let Z : Al = record { row = B; laws = laws; g = ghosts; d = d; drops = drops } in
    let args = bounded (a_type ∷ []) (B, tt) (dcons d (dcons drops dnil)) in
    let here = inst_fn args code.function in
    let T = f.ended B ghosts d drops in
    let c = f.clauses B ghosts d drops 𝓛 𝓜.mem 𝓡.returns in
    let stays : Stays T.signature.params T.kept = (stay_dropped _ yes, (stay_dropped _ yes, (stay_dropped _ yes, (stay_dropped _ yes, tt)))) in
    let W = walk_of 𝓛 T stays c in
    let 𝓣 = tables 𝓤 𝓛.H 𝓜 𝓡 𝓡.env in
    proved 𝓛 T stays c 𝓜 𝓡 (self_goes Z 𝓛, (Goes-dropped 𝓛 2 (plain (λ _. RawPtr)) yes (λ κs x w. refl), (word_goes 𝓛, (word_goes 𝓛, tt))))
    (f.Key.name args) here (code.unfolded 𝓤 𝓛.H 𝓜 𝓡 wired (B, tt) d drops)
    (λ κs. (shr_vals, (rawptr_vals, (uint_vals w64, (uint_vals w64, tt))))) (λ κs. ((λ r vs is. is.0), (rawptr_Tells, (uint_Tells w64, (uint_Tells w64, tt)))))
    (λ κs qs bounds a τ are.
    let κ = κs.0 in let q = qs.0 in let r = a.0 in let p = a.1.0 in let size = a.1.1.0 in let align = a.1.1.1.0 in
    let inner = r.now.inner in let at = inner_at Z r.ref_ptr in let rest = ‵ (flft κs.1.0 qs.1.0) ⊛ ‵ ftrue in
    let y : Ptr → W.Ghost = λ x. ((κs, qs, bounds, (r, (x, a.1.1)), (shr_vals r, (rawptr_vals x, (uint_vals w64 size, (uint_vals w64 align, tt))))), τ) in
    let Give = Gives Z 𝓛 𝓜.mem 𝓡.returns in
    qed 𝓛 (((‵ (flft κ q) ⊛ rest) ⊛ ‵ (owns (types_at T.signature.params κs) a (y p).0.4))
    ∷ (raw (fact 𝓤 (κs.1.0 ⊑ B.lives)) ⊛ raw (fact 𝓤 (HasLayout τ size align)) ⊛ ‵ (owned_block (token Z inner) τ p)) ∷ []) ∵
    move ! (1 ∷ []) $ split3 ! $ heard ! _ (λ lives. heard ! _ (λ layout.
    in_a_block ! p (owned_block (token Z inner) τ) (fst∗ 𝓤 (never 𝓤) (sem 𝓛 (token Z inner τ null_ptr))) (λ b o is_block.
    regoal ! (λ x. prop (WpFn 𝓤 𝓛.H 𝓣.C 𝓣.Λ here (W.args (y x)) (W.post (y x)))) is_block refl $
    let z : Give.Ghost = at_gives Z 𝓛 𝓜.mem 𝓡.returns κ q at inner b o size align τ in
    move ! (1 ∷ []) $ split ! $ split ! $ move ! (2 ∷ []) $ fsplit ! $ fsplit ! $ move ! (1 ∷ []) $
    use1 𝓛 (‵ (seen Z κ at inner) ⊛ ‵ (hidden_shr requests.the_row κ r.now.requests (requests_at Z r.ref_ptr).0 (requests_at Z r.ref_ptr).1)) (to_fields Z 𝓛 κ r.ref_ptr r.now) $
    split ! $ keep ! (6 ∷ 0 ∷ 4 ∷ 5 ∷ []) $ fsplit ! $
    -- [the block's memory; the right to free it; the inner allocator; the token; the other tokens]
    enter ! _ _ _ _ _ $ alloc_all ! (λ l. pass_all ! refl ((tt, tt), ((tt, tt), ((tt, record { fits = are.1.1.0.1 }), ((tt, record { fits = are.1.1.1.0.1 }), tt)))) $
    sets ! (addr ! (through ! refl (fld ! refl (stop !)))) refl (tt, tt) $
    group ! 4 $ use1 𝓛 (raw (Give.pre z)) (Gives-goes Z 𝓛 𝓜.mem 𝓡.returns κ q at inner (⊑_trans κ κs.1.0 B.lives bounds.0 lives) b o size align τ layout.0 layout.1 are.1.1.0.1 are.1.1.1.0.1) $
    calls_at ! (framed 𝓤 𝓛.H 𝓜 𝓣) Give (met.deallocate drops) z (and_then ! (get ! refl) (and_then ! (get ! refl) (and_then ! (get ! refl) (and_then ! (get ! refl) (no_more !))))) (λ v.
    use1 𝓛 (later (given (v ≡ vunit) (‵ (flft κ q)))) (Gives-Gives Z 𝓛 𝓜.mem 𝓡.returns κ q at inner b o size align τ v) $ await ! tt $ learn ! (λ is_unit.
    lands_as ! is_unit refl (tt, tt) $ sets ! (of_opd ! (unit_lit !)) refl (tt, tt) $ returns ! (look_at ! 0 refl) $ free_all ! refl $
    join ! $ nothing ! $ feq_i ! (List Val) (vunit ∷ []) _ refl $
    nothing ! $ nothing ! $ fjoin ! $ nothing ! $ fjoin ! $ nothing ! $ fjoin ! $ nothing ! $ fjoin ! $ move ! (3 ∷ 0 ∷ 1 ∷ 2 ∷ []) $
    by ! (leaves 𝓛 T stays c (y (block_ptr b o)) vunit tt (tt, (tt, (tt, (tt, tt)))) (tt, (tt, (tt, (tt, tt))))))))))))
