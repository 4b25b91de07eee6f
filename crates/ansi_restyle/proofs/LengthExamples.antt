-- A text that is changed may be as long as is said: a character in the style in which all is set, which the change sets again.
use Rattle.std.proofs.Common.{◌≡◌, ℕ, ◌+◌, List, [], ◌∷◌, ◌++◌, length, refl, codes}
use Rattle.std.specs.Fmt.{digits}
use Rattle.ansi_style.specs.Written.{written}
use Rattle.ansi_restyle.specs.Restyled.{restyled}

abbrev full : List ℕ
full = codes "0;99;1;2;3;4;5;6;7;8;9;11;20;21;26;38;2;255;255;255;48;2;255;255;255;58;2;255;255;255;51;52;53;60;61;62;63;64;73;74"

longest_change_of_a_byte : length (restyled (written full ++ codes "a") (written full) ((0, 1) ∷ [])) ≡ length (written full ++ codes "a") + (length full + 254)
unfolding digits
longest_change_of_a_byte = refl
