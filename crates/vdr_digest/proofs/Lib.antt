-- Proofs.
mod Holding
mod HourLemmas
