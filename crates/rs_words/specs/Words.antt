-- Headline: words as lists of bytes.
use Rattle.std.specs.Prelude.{String, string_bytes, map, List, ℕ}
use Rattle.std.specs.declared.alloc.Global.{Global}

-- the bytes of each word
abbrev pub bytes_of_words : List (String Global) → List (List ℕ)
bytes_of_words words = map (λ word. string_bytes word) words
