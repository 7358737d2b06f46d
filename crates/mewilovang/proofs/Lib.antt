pub mod Replying
pub mod TicketCalls
