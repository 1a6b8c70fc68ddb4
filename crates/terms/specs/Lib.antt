pub mod Sets
pub mod Axioms
pub mod Refusals
pub mod Numbers
pub mod Formed
