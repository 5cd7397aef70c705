pub mod Sign
