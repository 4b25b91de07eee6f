use Rattle.std.proofs.Common.{◌≡◌, ◌+◌, ◌++◌, length, take, drop, string_bytes, sym, ap, ◌∙◌, arith, rules, append_assoc}
use Rattle.std.specs.Prelude.{unwrap_or}
use Rattle.std.proofs.lemmas.List.{take_rest, length-drop}
use Rattle.std.proofs.lemmas.Str.{utf8_lossy-IsUtf8, utf8_lossy_step}
use Rattle.std.specs.Str.Lossy.{replacement_bytes, utf8_lossy, utf8_valid_len, utf8_error_len, utf8_invalid_len}
use Rattle.ansi_view_runs.proofs.view.replace_invalid.Goals as goal

-- the rest is valid
pub returns-in-Ok : goal.returns-in-Ok
returns-in-Ok g c =
    let cases = c.in-Ok.ensures.cases in
    c.in_ok-push_str-in-Ok.ensures.bytes
    ∙ ap (λ l. string_bytes c.pieces.text ++ l) (cases.0 ∙ sym (utf8_lossy-IsUtf8 _ cases.1))
    ∙ c.pieces.invariant.replaced

-- one invalid sequence more becomes U+FFFD
pub pieces-preserved : goal.pieces-preserved
pieces-preserved g c =
    let rest = c.pieces.rest.now in
    let valid = c.valid_up_to-valid.result in
    let invalid = c.unwrap_or-invalid.result in
    let cases = rw (← c.valid_up_to-valid.ensures) at c.in-Err.ensures.cases in
    let front : utf8_valid_len rest ≡ valid = sym (c.valid_up_to-valid.ensures ∙ c.in-Err.ensures.valid_len) in
    let fault : c.error_len.result ≡ utf8_error_len (drop valid rest) = rw (← c.valid_up_to-valid.ensures, ← c.error_len.ensures) at c.in-Err.ensures.fault in
    let is_invalid : invalid ≡ utf8_invalid_len (drop valid rest) =
    (rw fault at c.unwrap_or-invalid.ensures) ∙ ap (unwrap_or (utf8_error_len (drop valid rest))) (sym (length-drop valid rest)) in
    let text : string_bytes c.push_str-in-pieces-2.new.self ≡ (string_bytes c.pieces.text ++ take valid rest) ++ replacement_bytes = search rules in
    let faulty : ¬ (utf8_valid_len rest ≡ length rest) = λ all. omega (arith, front, all, cases.1.short) in
    let step : utf8_lossy rest ≡ take valid rest ++ (replacement_bytes ++ utf8_lossy (drop (valid + invalid) rest)) =
    rw (front, ← is_invalid) at (utf8_lossy_step rest faulty) in
    record { replaced = rw (take_rest, text, append_assoc, append_assoc, ← step) c.pieces.invariant.replaced }
