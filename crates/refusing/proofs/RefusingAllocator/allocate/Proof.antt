-- A request is counted. Then it is refused, or the inner allocator handles it. Assumes `Logic`.
use Rattle.std.proofs.Common.{ℕ, Bool, true, false, List, [], ◌∷◌, refl, ap, w64, Ok, Err}
use Rattle.std.proofs.raw_atomic.Walks.{proved, leaves}
use Rattle.std.proofs.alloc.Calls.{Al, seen, token, Answer, answer_val, Answer-typed, Answer-Ok, Answer-err, Takes, at_takes, Answered, Takes-goes, Takes-gives, answers}
use Rattle.std.proofs.alloc.Shapes.{after}
use Rattle.std.specs.Allocator.{HasLayout, block_if_ok}
use mir.Syntax.{a_type, dnil, dcons}
use mir.MapTy.{inst_fn}
use mir.Val.{Val, vptr}
use base.Logic.{id⊢}
use base.Fml.{ftrue, fsep, flft}
use contract.BorrowLft.{◌⊑◌, ⊑_trans}
use contract.Monad.{fact}
use contract.Running.{tables}
use types.Kit.{‵, raw, ◌⊛◌, some, later, prop, at_ret, Sq, ◌$◌, ◌∵◌, !, qed, by, move, keep, drop, use0, use1, use2, split, join, pick, fsplit, fjoin, feq_i, feq_l, await}
use types.Part.{agg}
use types.Run.{stop, fld, addr, lit, no_more, and_then, first, branches, skips, exec, returns, returns_within, enter}
use types.ByLocal.{alloc_all, pass_all, free_all, look_at, get, through, sets, lands_as, env}
use denote.Builtin.{bool}
use denote.Exit.{yes}
use denote.Memory.{hidden_shr}
use denote.Param.{bounded}
use denote.Plain.{uint_vals, uint_Tells}
use denote.RattleType.{owns}
use denote.RawPtr.{block_ptr}
use denote.Ref.{shr_vals}
use denote.Signature.{types_at}
use denote.Steps.{heard, nothing, only}
use denote.Triple.Call.{calls_at}
use denote.Triple.Spec.{triple_of}
use denote.Triple.Table.{framed}
use denote.Triple.Walked.{Stays, stay_dropped, walk_of}
use Rattle.refusing.proofs.RefusingLemmas.{word_goes, self_goes, inner_at, requests_at, to_fields}
use Rattle.refusing.specs.contracts.Requests as requests
use Rattle.refusing.specs.contracts.Requests.refuses_next as g
use Rattle.refusing.proofs.Requests.refuses_next.Met.{met as counted}
use Rattle.refusing.specs.contracts.RefusingAllocator.allocate as f
use Rattle.refusing.proofs.RefusingAllocator.allocate.Statement.{statement}
use Rattle.refusing.proofs.RefusingAllocator.allocate.Code as code

pub allocate_spec : {M : Type 1} → statement M
allocate_spec 𝓤 𝓛 𝓜 𝓡 wired B laws ghosts d drops met _ =
    let Z : Al = record { row = B; laws = laws; g = ghosts; d = d; drops = drops } in
    let args = bounded (a_type ∷ []) (B, tt) (dcons d (dcons drops dnil)) in
    let here = inst_fn args code.function in
    let T = f.ended B ghosts d drops in
    let c = f.clauses B ghosts d drops 𝓛 𝓜.mem 𝓡.returns in
    let stays : Stays T.signature.params T.kept = (stay_dropped _ yes, (stay_dropped _ yes, (stay_dropped _ yes, tt))) in
    let W = walk_of 𝓛 T stays c in
    let 𝓣 = tables 𝓤 𝓛.H 𝓜 𝓡 𝓡.env in
    proved 𝓛 T stays c 𝓜 𝓡 (self_goes Z 𝓛, (word_goes 𝓛, (word_goes 𝓛, tt)))
    (f.Key.name args) here (code.unfolded 𝓤 𝓛.H 𝓜 𝓡 wired (B, tt) d drops)
    (λ κs. (shr_vals, (uint_vals w64, (uint_vals w64, tt)))) (λ κs. ((λ r vs is. is.0), (uint_Tells w64, (uint_Tells w64, tt))))
    (λ κs qs bounds a τ are.
    let κ = κs.0 in let q = qs.0 in let r = a.0 in let size = a.1.0 in let align = a.1.1.0 in
    let inner = r.now.inner in let at = inner_at Z r.ref_ptr in let rest = ‵ (flft κs.1.0 qs.1.0) ⊛ ‵ ftrue in
    let y : W.Ghost = ((κs, qs, bounds, a, (shr_vals r, (uint_vals w64 size, (uint_vals w64 align, tt)))), τ) in
    let Count = triple_of 𝓛 g.signature (g.spec 𝓛 𝓜.mem 𝓡.returns) in
    let count_at : ℕ × ℕ = requests_at Z r.ref_ptr in
    let x : Count.Ghost = (((κ, tt), (q, tt), tt, (record { ref_ptr = count_at; now = r.now.requests }, tt), (vptr count_at.0 count_at.1 ∷ [], tt)), tt) in
    let Take = Takes Z 𝓛 𝓜.mem 𝓡.returns in
    let z : Take.Ghost = at_takes Z 𝓛 𝓜.mem 𝓡.returns κ q at inner size align τ in
    -- each end: [the result; its block; the token; the other tokens]
    let ends : (v : Val) (answer : Answer.Denot) → Sq 𝓛 (‵ (Answer.own_val answer (v ∷ [])) ∷ ‵ (block_if_ok (token Z inner) τ answer) ∷ ‵ (flft κ q) ∷ rest ∷ []) (prop (W.post y v)) = λ v answer.
    nothing ! $ nothing ! $ fjoin ! $ nothing ! $ fjoin ! $ nothing ! $ fjoin ! $ move ! (3 ∷ 4 ∷ []) $ join ! $
    by ! (leaves 𝓛 T stays c y v answer (tt, (tt, (tt, tt))) (tt, (tt, (tt, tt)))) in
    let refused : Sq 𝓛 (‵ (flft κ q) ∷ rest ∷ []) (prop (W.post y (answer_val false 0 0))) =
    nothing ! $ use0 𝓛 (‵ (Answer.own_val (Err (record {})) (answer_val false 0 0 ∷ []))) (Answer-err 𝓛) $ ends _ (Err (record {})) in
    qed 𝓛 (((‵ (flft κ q) ⊛ rest) ⊛ ‵ (owns (types_at T.signature.params κs) a y.0.4)) ∷ (raw (fact 𝓤 (κs.1.0 ⊑ B.lives)) ⊛ raw (fact 𝓤 (HasLayout τ size align))) ∷ []) ∵
    move ! (1 ∷ []) $ split ! $ heard ! _ (λ lives. heard ! _ (λ layout.
    split ! $ split ! $ move ! (2 ∷ []) $ fsplit ! $ fsplit ! $ move ! (1 ∷ []) $
    use1 𝓛 (‵ (seen Z κ at inner) ⊛ ‵ (hidden_shr requests.the_row κ r.now.requests count_at.0 count_at.1)) (to_fields Z 𝓛 κ r.ref_ptr r.now) $
    split ! $ keep ! (1 ∷ 4 ∷ 0 ∷ 5 ∷ []) $
    enter ! _ _ _ _ _ $ alloc_all ! (λ l. pass_all ! refl ((tt, tt), ((tt, record { fits = are.1.0.1 }), ((tt, record { fits = are.1.1.0.1 }), tt))) $
    -- [the requests; the token; the inner allocator; the other tokens]
    sets ! (addr ! (through ! refl (fld ! refl (stop !)))) refl (tt, tt) $
    feq_i ! (List Val) (vptr count_at.0 count_at.1 ∷ []) _ refl $ fjoin ! $ nothing ! $ move ! (1 ∷ []) $ fjoin ! $ nothing ! $ move ! (2 ∷ []) $ join ! $ join ! $
    nothing ! $ move ! (1 ∷ []) $ join ! $ use1 𝓛 (raw (Count.pre x)) (id⊢ 𝓤 _) $
    calls_at ! (framed 𝓤 𝓛.H 𝓜 𝓣) Count (counted 𝓤 𝓛 𝓜 𝓡 (code.calls-refusing::Requests::refuses_next 𝓡.env wired)) x (and_then ! (get ! refl) (no_more !)) (λ v.
    use1 𝓛 (later (some (λ (is_refused : Bool). ((‵ (flft κ q) ⊛ ‵ ftrue) ⊛ ‵ (bool.own_val is_refused (v ∷ []))) ⊛ some (λ (ws : Unit {0} × Unit {0}). ‵ (fsep ftrue ftrue) ⊛ ‵ ftrue)))) (id⊢ 𝓤 _) $
    await ! tt $ pick ! (λ is_refused. split ! $ split ! $ move ! (1 ∷ []) $ feq_l ! (λ is. split ! $ move ! (1 ∷ []) $ drop ! $ move ! (1 ∷ []) $ drop ! $
    -- [the token; the inner allocator; the other tokens]
    lands_as ! (ap only is) refl (tt, tt) $ first ! $ branches ! (get ! refl)
    (λ _. sets ! (agg ! (no_more !)) refl (tt, tt) $ sets ! (agg ! (and_then ! (lit ! tt) (and_then ! (get ! refl) (no_more !)))) refl (Answer-typed false 0 0) $
    returns_within ! (W.post y) refl (look_at ! 0 refl) $ free_all ! refl $ move ! (1 ∷ []) $ drop ! $ refused)
    (λ _. skips ! $ exec ! 𝓣.C 𝓣.Λ (env here.locals l) (after 3 here.body) (at_ret _ (W.post y)) $
    sets ! (addr ! (through ! refl (fld ! refl (stop !)))) refl (tt, tt) $
    move ! (1 ∷ 0 ∷ []) $ use2 𝓛 (raw (Take.pre z)) (Takes-goes Z 𝓛 𝓜.mem 𝓡.returns κ q at inner (⊑_trans κ κs.1.0 B.lives bounds.0 lives) size align τ layout.0 layout.1 are.1.0.1 are.1.1.0.1) $
    calls_at ! (framed 𝓤 𝓛.H 𝓜 𝓣) Take (met.allocate drops) z (and_then ! (get ! refl) (and_then ! (get ! refl) (and_then ! (get ! refl) (no_more !)))) (λ w.
    use1 𝓛 (later (raw (Answered Z 𝓛 𝓜.mem 𝓡.returns inner τ w) ⊛ ‵ (flft κ q))) (Takes-gives Z 𝓛 𝓜.mem 𝓡.returns κ q at inner size align τ w) $ await ! tt $ split ! $
    answers Z ! 𝓜.mem 𝓡.returns inner τ w
    (λ b o is_ok. fjoin ! $ lands_as ! is_ok refl (Answer-typed true b o) $ returns ! (look_at ! 0 refl) $ free_all ! refl $
    use0 𝓛 (‵ (Answer.own_val (Ok (block_ptr b o)) (answer_val true b o ∷ []))) (Answer-Ok 𝓛 b o) $ ends _ (Ok (block_ptr b o)))
    (λ is_err. lands_as ! is_err refl (Answer-typed false 0 0) $ returns ! (look_at ! 0 refl) $ free_all ! refl $ refused))))))))))
