-- The readers and writers of std under the devices.
use Rattle.std.specs.Prelude.{◌≡◌, ℕ, List, Option, None, false, if◌then◌else◌}
use Rattle.std.specs.declared.io.ErrorKind.TheVariants as kind
use Rattle.ansi_io.specs.declared.host.HostIn.{HostIn}
use Rattle.ansi_io.specs.declared.host.HostOut.{HostOut}

-- the reader of a source
abbrev pub reader_of : {R : Type 0} → HostIn R → R
reader_of device = device.reader

-- the writer of a sink
abbrev pub writer_of : {W : Type 0} → HostOut W → W
writer_of device = device.writer

-- a sink has passed on what its writer holds if its last call was a flush that succeeded; otherwise it doesn't report what it has passed on
abbrev pub flushed_by : {W : Type 0} → (W → Option (List ℕ)) → HostOut W → Option (List ℕ)
flushed_by contents device = if device.flushed then contents (writer_of device) else None

-- a fresh source has its reader, and made no read; so no read was interrupted or failed, or has an error
pub record IsFreshSource {R : Type 0} (reader : R) (device : HostIn R) : Type 0 where
  pub same_reader : reader_of device ≡ reader
  pub unread : device.reads ≡ 0
  pub uninterrupted : device.interrupted ≡ false
  pub unfailed : device.failed ≡ false
  pub no_error : device.cause ≡ kind.Other

-- a fresh sink has its writer, made no flush, doesn't report what it has passed on, and no call of it has failed or has an error
pub record IsFreshSink {W : Type 0} (writer : W) (device : HostOut W) : Type 0 where
  pub same_writer : writer_of device ≡ writer
  pub unflushed : device.flushes ≡ 0
  pub untold : (contents : W → Option (List ℕ)) → flushed_by contents device ≡ None
  pub unfailed : device.failed ≡ false
  pub unclosed : device.closed ≡ false
  pub no_error : device.cause ≡ kind.Other
