pub mod Devices
pub mod Writers
pub mod Reading
pub mod Stops
pub mod Hosts
pub mod FakeDeviceStates
pub mod FakeDevices
