pub mod Multipliers
pub mod Certificate
pub mod Two
pub mod Refutes
pub mod Search
pub mod Sides
