use Rattle.std.proofs.Common.{arith}
use Rattle.ansi_clusters.proofs.fits.Fitted.narrowed.Goals as goal

pub returns : goal.returns
returns c view text width fits =
    let fitting = fits.fitting in
    record {
      walk = fits.walk;
      fitting = record { front = fitting.front; all = fitting.all; boundary = fitting.boundary; columns = omega (arith, fitting.columns, c.requires) };
    }
