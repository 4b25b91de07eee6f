pub mod Known
mod FakeDeviceLemmas
