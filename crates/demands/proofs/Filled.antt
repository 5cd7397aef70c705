-- What an accepted row is, of `rows`, and the bracket that it hands out, of `Handed`. Nothing of its own.
pub use Rattle.rows.proofs.Filled.{written_at, Long, long_all, blank_room, both, bracket_at, Given, given_in, Filled, filled, filled_of}
pub use Rattle.demands.proofs.Handed.{flag_back, handed_at}
