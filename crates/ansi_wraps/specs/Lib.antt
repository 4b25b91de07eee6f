pub mod WrapStates
