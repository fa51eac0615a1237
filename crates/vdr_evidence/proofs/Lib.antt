-- Proofs.
mod Parts
mod Contents
