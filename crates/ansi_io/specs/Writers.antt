-- Which writers of std report their bytes.
use Rattle.std.specs.Prelude.{◌≡◌, ℕ, List, Option, None, Some, is_some, refl}
use Rattle.std.proofs.Common.{sym, ◌∙◌}
use Rattle.std.specs.Io.KnownBytes.{append_known}
use Rattle.std.specs.Io.Buffered.{writer_contents, writer_inner, writer_buffer}
use Rattle.std.specs.declared.io.buffered.BufWriter.{BufWriter}

-- known bytes stay known when more are appended, and unknown bytes unknown
is_some-append_known : (known : Option (List ℕ)) (more : List ℕ) → is_some (append_known known more) ≡ is_some known
is_some-append_known None more = refl
is_some-append_known (Some bytes) more = refl

-- a buffered writer reports its bytes if the writer under it does
pub buffered_tell_alike : {W A : Type 0} (contents : W → Option (List ℕ)) → ((one other : W) → is_some (contents one) ≡ is_some (contents other))
    → (one other : BufWriter W A) → is_some (writer_contents contents one) ≡ is_some (writer_contents contents other)
buffered_tell_alike contents tell_alike one other =
    is_some-append_known (contents (writer_inner one)) (writer_buffer one)
    ∙ tell_alike (writer_inner one) (writer_inner other)
    ∙ sym (is_some-append_known (contents (writer_inner other)) (writer_buffer other))
