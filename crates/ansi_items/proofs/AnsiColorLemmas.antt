-- The order of colors as SGR codes write them.
use Rattle.ansi_items.proofs.Common.{◌≡◌, refl, ap, ordering_then, nat_cmp, Ordering, Less, Equal, Greater, AnsiColor, Bit4, Bit8, Bit24, compared, ansi_color_key}
use Rattle.ansi_items.specs.contracts.ansitok.AnsiColorOrd.TheImpl.{ghosts}

-- what nothing follows decides alone
pub ordering_then-equal : (o : Ordering) → o ≡ ordering_then o Equal
ordering_then-equal Less = refl
ordering_then-equal Equal = refl
ordering_then-equal Greater = refl

pub same_ansi_color : (x y : AnsiColor) → ghosts.cmp x y ≡ compared (ansi_color_key x) (ansi_color_key y)
same_ansi_color (Bit4 n) (Bit4 m) = ordering_then-equal (nat_cmp n m)
same_ansi_color (Bit4 n) (Bit8 m) = refl
same_ansi_color (Bit4 n) (Bit24 r g b) = refl
same_ansi_color (Bit8 n) (Bit4 m) = refl
same_ansi_color (Bit8 n) (Bit8 m) = ordering_then-equal (nat_cmp n m)
same_ansi_color (Bit8 n) (Bit24 r g b) = refl
same_ansi_color (Bit24 r g b) (Bit4 m) = refl
same_ansi_color (Bit24 r g b) (Bit8 m) = refl
same_ansi_color (Bit24 r g b) (Bit24 u v w) = ap (λ o. ordering_then (nat_cmp r u) (ordering_then (nat_cmp g v) o)) (ordering_then-equal (nat_cmp b w))
