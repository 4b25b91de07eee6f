use Rattle.ansi_wraps.proofs.wrap.given_line.Goals as goal

pub returns-in-Err-clause-spans : goal.returns-in-Err-clause-spans
returns-in-Err-clause-spans g c = c.finish.ensures.spans c.args.text.now
