-- Each stream and each call of the tables is as the definitions give it, by computation. Assumes nothing.
use mathlib.Core.Path.{◌≡◌, refl}
use mathlib.Core.List.{List, map}
use Prim.Native.Nat.{ℕ}
use Prim.Native.String.{String}
use Rattle.records.specs.Record.{number_at, next_at}
use Rattle.records.specs.Text.{ascii, digit, decimal_in, hexadecimal}
use Rattle.requests.specs.Operations.{operation_of}
use Rattle.stream.specs.Response.{row_lines, d_lines, row_text, dlmf_text, answer_text, text_of, response_to}
use Rattle.stream.specs.Stream.{lines_in, lines_of}
use Rattle.stream.specs.Inside.Calls.{Answered, answered_in, answered}
use Rattle.demands.specs.Streams.{streams, calls}
use Rattle.demands.proofs.Computed.{computed}

pub streams_right : map (λ (row : List ℕ × String). lines_of row.0) streams ≡ map (λ (row : List ℕ × String). ascii row.1) streams
unfolding computed lines_in response_to text_of row_text dlmf_text answer_text row_lines d_lines next_at number_at decimal_in hexadecimal digit operation_of
streams_right = refl

pub calls_right : map (λ (row : List ℕ × ℕ × Answered). answered row.0 row.1 0 5) calls ≡ map (λ (row : List ℕ × ℕ × Answered). row.2) calls
unfolding answered_in response_to text_of next_at number_at decimal_in digit operation_of computed
calls_right = refl
