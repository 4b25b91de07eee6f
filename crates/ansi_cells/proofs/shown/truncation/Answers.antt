use Rattle.std.proofs.Common.{◌≡◌, ◌+◌, ◌-◌, take, IfSome, sym, ◌∙◌, ap, subst, arith}
use Rattle.std.proofs.lemmas.Bool.{le-leb, leb-true}
use Rattle.ansi_items.specs.Plain.{plain}
use Rattle.ansi_safe.specs.Cells.{cell}
use Rattle.ansi_clusters.specs.declared.views.View.TheVariants.{Shown}
use Rattle.ansi_clusters.specs.Columns.{columns}
use Rattle.ansi_clusters.specs.Views.{seen_len, seen_text}
use Rattle.ansi_clusters.specs.Walks.{IsFitted, SeesUpTo}
use Rattle.ansi_clusters.proofs.ColumnLemmas.{seen_len-past, sees-past}
use Rattle.ansi_clusters.proofs.FitLemmas.{fitting-columns, fits-wider}
use Rattle.ansi_cells.proofs.MissingLemmas.{IsLack, known_if, lack-alone, lack-beside}
use Rattle.ansi_cells.proofs.ShownLemmas.{width-fits, width-wide, width-tail}
use Rattle.ansi_cells.proofs.shown.truncation.Goals.{then-columns-from, else-columns-from}
use Rattle.ansi_cells.proofs.shown.truncation.Goals as goal

-- the tail is too wide

pub returns-then-width-columns-clause-fits : goal.returns-then-width-columns-clause-fits
returns-then-width-columns-clause-fits c =
    let t = c.args.text.now in
    let whole = c.longest.ensures in
    let end = c.next_seen.ensures in
    subst (λ n. SeesUpTo Shown t n c.next_seen.result.0.position) (sym (width-wide (cell t) c.args.tail.now c.args.width (omega (arith, c.tail_width-columns.ensures, c.if-width-columns.true))).0)
    (sees-past Shown t c.utf8.text c.longest.result.0.walk c.next_seen.result.0 whole.fitted.walk end.walk end.ordered end.left_out c.next_seen.result.1 whole.fits end.next)

pub returns-then-width-columns-clause-tail : goal.returns-then-width-columns-clause-tail
returns-then-width-columns-clause-tail c = (width-wide (cell c.args.text.now) c.args.tail.now c.args.width (omega (arith, c.tail_width-columns.ensures, c.if-width-columns.true))).1

pub returns-then-width-columns-clause-missing : goal.returns-then-width-columns-clause-missing
returns-then-width-columns-clause-missing c =
    let t = c.args.text.now in
    let whole = c.longest.ensures in
    let end = c.next_seen.ensures in
    let at = c.next_seen.result.0 in
    let is = width-wide (cell t) c.args.tail.now c.args.width (omega (arith, c.tail_width-columns.ensures, c.if-width-columns.true)) in
    let sees = sees-past Shown t c.utf8.text c.longest.result.0.walk at whole.fitted.walk end.walk end.ordered end.left_out c.next_seen.result.1 whole.fits end.next in
    lack-alone t c.utf8.text c.args.width c.args.tail.now at end.walk (subst (λ n. SeesUpTo Shown t n at.position) (sym is.0) sees) c.longest.result.0.left
    (fitting-columns at.position whole.fitted.fitting c.utf8.text (seen_len-past Shown t c.utf8.text c.longest.result.0.walk at whole.fitted.walk end.walk end.ordered end.left_out)) is.1

-- one pass

pub longest-fits_beside-requires : goal.longest-fits_beside-requires
longest-fits_beside-requires c =
    let t = c.args.text.now in
    let room = c.args.width - c.tail_width-columns.result in
    elim c.if-columns-from.branch [
      | then-columns-from w ↦ subst (IsFitted Shown t room) (sym w.from-is) (w.narrowed-from.ensures Shown t c.args.width c.requires)
      | else-columns-from w ↦ subst (IsFitted Shown t room) (sym w.from-is) w.fitted-from.ensures
    ]

-- the text fits

pub returns-then-is_all-clause-fits : goal.returns-then-is_all-clause-fits
returns-then-is_all-clause-fits c =
    let t = c.args.text.now in
    let whole = c.longest-is_all.ensures in
    let end = c.next_seen-then-is_all.ensures in
    subst (λ n. SeesUpTo Shown t n c.next_seen-then-is_all.result.0.position) (sym (width-fits (cell t) c.args.tail.now c.args.width (sym whole.all ∙ c.if-is_all.true)).0)
    (sees-past Shown t c.utf8.text c.longest-is_all.result.0.walk c.next_seen-then-is_all.result.0 whole.fitted.walk end.walk end.ordered end.left_out c.next_seen-then-is_all.result.1 whole.fits end.next)

pub returns-then-is_all-clause-tail : goal.returns-then-is_all-clause-tail
returns-then-is_all-clause-tail c = (width-fits (cell c.args.text.now) c.args.tail.now c.args.width (sym c.longest-is_all.ensures.all ∙ c.if-is_all.true)).1

pub returns-then-is_all-clause-missing : goal.returns-then-is_all-clause-missing
returns-then-is_all-clause-missing c =
    let t = c.args.text.now in
    let whole = c.longest-is_all.ensures in
    let end = c.next_seen-then-is_all.ensures in
    let at = c.next_seen-then-is_all.result.0 in
    let is = width-fits (cell t) c.args.tail.now c.args.width (sym whole.all ∙ c.if-is_all.true) in
    let sees = sees-past Shown t c.utf8.text c.longest-is_all.result.0.walk at whole.fitted.walk end.walk end.ordered end.left_out c.next_seen-then-is_all.result.1 whole.fits end.next in
    lack-alone t c.utf8.text c.args.width c.args.tail.now at end.walk (subst (λ n. SeesUpTo Shown t n at.position) (sym is.0) sees) c.longest-is_all.result.0.left
    (fitting-columns at.position whole.fitted.fitting c.utf8.text (seen_len-past Shown t c.utf8.text c.longest-is_all.result.0.walk at whole.fitted.walk end.walk end.ordered end.left_out)) is.1

-- .. beside the tail, too

pub returns-then-fits_beside-clause-fits : goal.returns-then-fits_beside-clause-fits
returns-then-fits_beside-clause-fits c =
    let t = c.args.text.now in
    let width = c.args.width in
    let front = c.longest-fits_beside.ensures in
    let end = c.next_seen-then-fits_beside.ensures in
    let all = sym front.all ∙ c.if-fits_beside.true in
    let within = le-leb (columns (seen_text Shown t)) width (omega (arith, leb-true (columns (seen_text Shown t)) (width - c.tail_width-columns.result) all)) in
    subst (λ n. SeesUpTo Shown t n c.next_seen-then-fits_beside.result.0.position) (sym (width-fits (cell t) c.args.tail.now width within).0)
    (sees-past Shown t c.utf8.text c.longest-fits_beside.result.0.walk c.next_seen-then-fits_beside.result.0 front.fitted.walk end.walk end.ordered end.left_out c.next_seen-then-fits_beside.result.1 (fits-wider width front.fits all (omega arith)) end.next)

pub returns-then-fits_beside-clause-tail : goal.returns-then-fits_beside-clause-tail
returns-then-fits_beside-clause-tail c =
    let t = c.args.text.now in
    let width = c.args.width in
    let all = sym c.longest-fits_beside.ensures.all ∙ c.if-fits_beside.true in
    let within = le-leb (columns (seen_text Shown t)) width (omega (arith, leb-true (columns (seen_text Shown t)) (width - c.tail_width-columns.result) all)) in
    (width-fits (cell t) c.args.tail.now width within).1

pub returns-then-fits_beside-clause-missing : goal.returns-then-fits_beside-clause-missing
returns-then-fits_beside-clause-missing c =
    let t = c.args.text.now in
    let width = c.args.width in
    let front = c.longest-fits_beside.ensures in
    let end = c.next_seen-then-fits_beside.ensures in
    let at = c.next_seen-then-fits_beside.result.0 in
    let all = sym front.all ∙ c.if-fits_beside.true in
    let within = le-leb (columns (seen_text Shown t)) width (omega (arith, leb-true (columns (seen_text Shown t)) (width - c.tail_width-columns.result) all)) in
    let is = width-fits (cell t) c.args.tail.now width within in
    let sees = sees-past Shown t c.utf8.text c.longest-fits_beside.result.0.walk at front.fitted.walk end.walk end.ordered end.left_out c.next_seen-then-fits_beside.result.1 (fits-wider width front.fits all (omega arith)) end.next in
    let counted = fitting-columns at.position front.fitted.fitting c.utf8.text (seen_len-past Shown t c.utf8.text c.longest-fits_beside.result.0.walk at front.fitted.walk end.walk end.ordered end.left_out) in
    lack-alone t c.utf8.text width c.args.tail.now at end.walk (subst (λ n. SeesUpTo Shown t n at.position) (sym is.0) sees) (c.longest-fits_beside.result.0.left + c.tail_width-columns.result)
    (omega (arith, counted, c.if-width-columns.false)) is.1

-- it is cut for the tail

pub returns-clause-fits : goal.returns-clause-fits
returns-clause-fits c =
    let t = c.args.text.now in
    let front = c.longest-fits_beside.ensures in
    let end = c.next_seen-2.ensures in
    let beside = (width-tail (cell t) c.args.tail.now c.args.width (sym c.longest-is_all.ensures.all ∙ c.if-is_all.false) (omega (arith, c.tail_width-columns.ensures, c.if-width-columns.false))).0 in
    subst (λ n. SeesUpTo Shown t n c.next_seen-2.result.0.position) (sym (beside ∙ ap (λ n. c.args.width - n) (sym c.tail_width-columns.ensures)))
    (sees-past Shown t c.utf8.text c.longest-fits_beside.result.0.walk c.next_seen-2.result.0 front.fitted.walk end.walk end.ordered end.left_out c.next_seen-2.result.1 front.fits end.next)

pub returns-clause-tail : goal.returns-clause-tail
returns-clause-tail c =
    (width-tail (cell c.args.text.now) c.args.tail.now c.args.width (sym c.longest-is_all.ensures.all ∙ c.if-is_all.false) (omega (arith, c.tail_width-columns.ensures, c.if-width-columns.false))).1

pub returns-clause-missing : goal.returns-clause-missing
returns-clause-missing c =
    let t = c.args.text.now in
    let width = c.args.width in
    let tail = c.args.tail.now in
    let front = c.longest-fits_beside.ensures in
    let end = c.next_seen-2.ensures in
    let at = c.next_seen-2.result.0 in
    let left = c.longest-fits_beside.result.0.left in
    let is = width-tail (cell t) tail width (sym c.longest-is_all.ensures.all ∙ c.if-is_all.false) (omega (arith, c.tail_width-columns.ensures, c.if-width-columns.false)) in
    let room : width - c.tail_width-columns.result ≡ _ = sym (is.0 ∙ ap (λ n. width - n) (sym c.tail_width-columns.ensures)) in
    let sees = subst (λ n. SeesUpTo Shown t n at.position) room (sees-past Shown t c.utf8.text c.longest-fits_beside.result.0.walk at front.fitted.walk end.walk end.ordered end.left_out c.next_seen-2.result.1 front.fits end.next) in
    let counted = fitting-columns at.position front.fitted.fitting c.utf8.text (seen_len-past Shown t c.utf8.text c.longest-fits_beside.result.0.walk at front.fitted.walk end.walk end.ordered end.left_out) in
    let sum : columns (take (seen_len Shown t at.position) (seen_text Shown t)) + left + columns (plain tail) ≡ width = omega (arith, counted, c.tail_width-columns.ensures, c.if-width-columns.false) in
    subst (λ o. IfSome o (IsLack (cell t) width tail)) (sym c.then_some.ensures)
    (known_if (IsLack (cell t) width tail) c.is_known_apart.result left (λ holds. lack-beside t c.utf8.text width tail at end.walk sees left tail sum is.1 (c.is_known_apart.ensures.bare holds) (c.is_known_apart.ensures.breaks holds)))
