pub mod Inputs
pub mod Steps
pub mod InviteClient
pub mod InviteServer
pub mod OtherClient
pub mod OtherServer
pub mod Machines
pub mod Lines
