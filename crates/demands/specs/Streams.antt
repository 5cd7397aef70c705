-- Document 01's example stream and others, each with its lines, and calls of `stream::answer_some` with what they answer. `proofs/Streams.antt` has one theorem over each table.
use Rattle.std.specs.Prelude.{true, false, List, [], ◌∷◌, ◌++◌, ℕ, take, replicate}
use Prim.Native.String.{String}
use Rattle.records.specs.Text.{ascii}
use Rattle.stream.specs.Inside.Calls.{Answered}

-- a record with this operation, n 2, and all else zero
abbrev pub asks : ℕ → List ℕ
asks operation = 0x53 ∷ 0x57 ∷ operation ∷ 0 ∷ 0 ∷ 2 ∷ replicate 27 0

-- the same in Card 6's kind
abbrev pub asks_new : ℕ → List ℕ
asks_new operation = 0x53 ∷ 0x56 ∷ operation ∷ 0 ∷ 0 ∷ 2 ∷ replicate 29 0

-- a stream and its lines
abbrev pub streams : List (List ℕ × String)
streams =
    ([], "") ∷
    -- document 01's example, with the lines of Card 1
    (asks 1 ++ 0x53 ∷ 0x57 ∷ 3 ∷ replicate 30 0, "V 0 0 0 0000000000000000 0000000000000000 0000000000000000\nZ 0 0 0\nV 0 1 0 4000000000000000 4000000000000000 4000000000000000\nZ 0 1 0\nV 0 2 0 4018000000000000 4018000000000000 4018000000000000\nZ 0 2 0\nA 1 0 0 3ff0000000000000 0000000000000000\n") ∷
    -- no such operation: the stream goes on
    (asks 0 ++ asks 9 ++ asks 255 ++ asks 7, "R 0 3\nR 1 3\nR 2 3\nD 3 0 0000000000000000\nD 3 1 4000000000000000\nD 3 2 4018000000000000\n") ∷
    -- Card 2's first kind, on the disc
    (asks 8, "G 0 0 2 8000000000000000 0000000000000000\n") ∷
    -- one byte is no mark, whatever it is
    (0x53 ∷ [], "R 0 1\n") ∷
    (0x00 ∷ [], "R 0 1\n") ∷
    -- it ends inside a record of either kind
    (0x53 ∷ 0x57 ∷ [], "R 0 1\n") ∷
    (take 32 (asks 9), "R 0 1\n") ∷
    (take 33 (asks_new 9), "R 0 1\n") ∷
    (asks 9 ++ take 34 (asks_new 9), "R 0 3\nR 1 1\n") ∷
    -- neither mark, whatever follows: one byte differs, both are turned round, and a whole record behind it is not read
    (0x53 ∷ 0x58 ∷ [], "R 0 2\n") ∷
    (replicate 32 0, "R 0 2\n") ∷
    (0x52 ∷ 0x57 ∷ replicate 31 0, "R 0 2\n") ∷
    (asks 9 ++ 0x56 ∷ 0x53 ∷ replicate 33 0 ++ asks 1, "R 0 3\nR 1 2\n") ∷
    -- both kinds in turn
    (asks 9 ++ asks_new 7 ++ asks 8 ++ asks_new 0, "R 0 3\nD 1 0 0000000000000000\nD 1 1 4000000000000000\nD 1 2 4018000000000000\nG 2 0 2 8000000000000000 0000000000000000\nR 3 3\n") ∷
    []

-- a stream, the room in the buffer, and what a call from byte 0 on answers, the first record being number 5
abbrev pub calls : List (List ℕ × ℕ × Answered)
calls =
    -- too little room for any record
    (asks 9 ++ asks 9, 24799, record { text = []; at = 0; index = 5; refused = false }) ∷
    -- for one; for both: 24800 bytes are left after the first line
    (asks 9 ++ asks 9, 24805, record { text = ascii "R 5 3\n"; at = 33; index = 6; refused = false }) ∷
    (asks 9 ++ asks_new 9, 24806, record { text = ascii "R 5 3\nR 6 3\n"; at = 68; index = 7; refused = false }) ∷
    -- a record that is not whole yet is left
    (asks 9 ++ 0x53 ∷ [], 30000, record { text = ascii "R 5 3\n"; at = 33; index = 6; refused = false }) ∷
    (asks 9 ++ take 34 (asks_new 9), 30000, record { text = ascii "R 5 3\n"; at = 33; index = 6; refused = false }) ∷
    -- a refused stream has its line, and the byte and the number are those of the record that is refused
    (asks 9 ++ 0x53 ∷ 0x58 ∷ [], 30000, record { text = ascii "R 5 3\nR 6 2\n"; at = 33; index = 6; refused = true }) ∷
    []
