-- How a transfer keeps what the public words say of it.
pub mod TransferStates
