-- The clusters of a text, read character by character.
use Rattle.std.proofs.Common.{◌≡◌, ◌≢◌, ℕ, Bool, true, false, List, [], ◌∷◌, ◌++◌, refl, sym, ◌∙◌, ap, append_assoc, append-nil, if◌then◌else◌}
use Rattle.unicode_segmentation.specs.Grapheme.{is_grapheme_break}
use Rattle.unicode_segmentation.specs.Segments.{prepend, cut}
use Rattle.ansi_clusters.specs.Walks.{clusters_after}

-- the clusters of the characters cs, if the first has begun with a part, which comes directly before them
abbrev pub clusters_with : List ℕ → List ℕ → List ℕ → List (List ℕ)
clusters_with part before cs =
    if is_grapheme_break true before cs then part ∷ clusters_after before cs else prepend part (clusters_after before cs)

pub cluster-begins : (before : List ℕ) (c : ℕ) (cs : List ℕ) → clusters_after before (c ∷ cs) ≡ clusters_with (c ∷ []) (c ∷ before) cs
unfolding cut
cluster-begins before c cs = ap (λ ds. if is_grapheme_break true (c ∷ before) ds then (c ∷ []) ∷ clusters_after (c ∷ before) cs else prepend (c ∷ []) (clusters_after (c ∷ before) cs)) (append-nil cs)

prepend-with : (part : List ℕ) (c : ℕ) (b : Bool) (ks : List (List ℕ)) → prepend part (if b then (c ∷ []) ∷ ks else prepend (c ∷ []) ks) ≡ (if b then (part ++ c ∷ []) ∷ ks else prepend (part ++ c ∷ []) ks)
prepend-with part c true ks = refl
prepend-with part c false [] = refl
prepend-with part c false (k ∷ ks) = ap (λ u. u ∷ ks) (sym (append_assoc part (c ∷ []) k))

-- the cluster goes on with the next character
pub cluster-goes_on : (part before : List ℕ) (c : ℕ) (cs : List ℕ) → is_grapheme_break true before (c ∷ cs) ≡ false → clusters_with part before (c ∷ cs) ≡ clusters_with (part ++ c ∷ []) (c ∷ before) cs
cluster-goes_on part before c cs joins =
    ap (λ b. if b then part ∷ clusters_after before (c ∷ cs) else prepend part (clusters_after before (c ∷ cs))) joins
    ∙ ap (prepend part) (cluster-begins before c cs)
    ∙ prepend-with part c (is_grapheme_break true (c ∷ before) cs) (clusters_after (c ∷ before) cs)

-- it ends before the next character
pub cluster-ends : (part before cs : List ℕ) → is_grapheme_break true before cs ≡ true → clusters_with part before cs ≡ part ∷ clusters_after before cs
cluster-ends part before cs breaks = ap (λ b. if b then part ∷ clusters_after before cs else prepend part (clusters_after before cs)) breaks

-- it ends if no character is left
pub cluster-last : (part before : List ℕ) → before ≢ [] → clusters_with part before [] ≡ part ∷ []
unfolding is_grapheme_break cut
cluster-last part [] some = absurd (some refl)
cluster-last part (c ∷ before) some = refl

pub clusters-none : (before : List ℕ) → clusters_after before [] ≡ []
unfolding cut
clusters-none before = refl
