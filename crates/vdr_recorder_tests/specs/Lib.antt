-- What the tests keep of a recorder between its calls.
pub mod Benches
