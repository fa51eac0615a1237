-- Proofs.
mod TagLemmas
mod TakenLemmas
mod FrontLemmas
pub mod ItemLemmas
mod DatagramLemmas
mod PacketLemmas
mod LinkLemmas
