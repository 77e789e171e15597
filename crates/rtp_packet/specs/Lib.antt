-- The specifications of `rtp_packet`.
pub mod Header
pub mod Datagram
pub mod Original
pub mod OneBit
pub mod Layout
