-- What a fake device gives, and what it has left.
use Rattle.std.proofs.Common.{◌≡◌, ◌≤◌, ◌+◌, ◌∙◌, ap, sym, ℕ, List, ◌++◌, length, take, drop, min, max, Some, Ok, arith, subst, length-append, length-drop}
use Rattle.std.proofs.Math.Seq.{take-append_seam}
use Rattle.std.proofs.lemmas.List.{take-append-drop, drop-drop, length-take-le, drop_all}
use Rattle.ansi_io.specs.Devices.{Reads}

-- the front of a list, put into a room, and the rest are the whole list
front_and_rest : (left room : List ℕ) (count : ℕ) → count ≤ length left
    → left ≡ take count (take count left ++ drop count room) ++ drop count left
front_and_rest left room count fits =
    let front = take count left in
    let front_len : length front ≡ count = length-take-le count left fits in
    let seam : take count (front ++ drop count room) ≡ front =
    subst (λ (n : ℕ). take n (front ++ drop count room) ≡ front) front_len (take-append_seam front (drop count room)) in
    sym (ap (λ xs. xs ++ drop count left) seam ∙ take-append-drop count left)

-- a device that gives as much as it can gives what a source must give
pub reads_front : (bytes room : List ℕ) (read count chunk : ℕ) → count ≡ min (min (length (drop read bytes)) (length room)) (max chunk 1)
    → Reads (Some (drop read bytes)) (Some (drop (read + count) bytes)) (Ok count) (take count (drop read bytes) ++ drop count room)
reads_front bytes room read count chunk counted =
    let left = drop read bytes in
    let fits : count ≤ length left = omega (arith, counted) in
    let front_len : length (take count left) ≡ count = length-take-le count left fits in (
      ap Some (front_and_rest left room count fits ∙ ap (λ xs. take count (take count left ++ drop count room) ++ xs) (drop-drop count read bytes)),
      λ none some. drop_all (read + count) bytes (omega (arith, counted, none, some, front_len, length-append (take count left) (drop count room), length-drop count room, length-drop read bytes)),
    )
