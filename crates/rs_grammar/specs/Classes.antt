-- Public: which tokens belong to a class.
use Rattle.std.specs.Prelude.{ℕ, List, [], ◌∷◌, map, codes, is_some, Option, Some, None, Bool, true, false}
use Rattle.rs_grammar.specs.declared.classes.Class.{Class}
use Rattle.rs_grammar.specs.declared.classes.Class.TheVariants as class
use Rattle.rs_grammar.specs.declared.classes.Keyword.{Keyword}
use Rattle.rs_grammar.specs.declared.classes.Keyword.TheVariants as keyword
use Rattle.rs_text.specs.declared.tokens.FaultKind.TheVariants as faulty
use Rattle.rs_text.specs.Seen.{plain_text, sort_named, word_text}
use Rattle.rs_text.specs.Signs.{Sign, rec_word, end_word, plain, number, arrow, bang, question, colon, dot, comma, open_brace, close_brace, open_paren, close_paren, open_bracket, close_bracket}
use Rattle.rs_text.specs.Signs.{finish, broken}
use Rattle.rs_text.specs.TokenTests.{is_keyword}

-- the text of a keyword
abbrev pub keyword_text : Keyword → List ℕ
keyword_text keyword.Roles = codes "roles"
keyword_text keyword.Protocol = codes "protocol"
keyword_text keyword.Machine = codes "machine"
keyword_text keyword.Table = codes "table"
keyword_text keyword.Derivation = codes "derivation"
keyword_text keyword.Format = codes "format"
keyword_text keyword.Bound = codes "bound"
keyword_text keyword.Pending = codes "pending"
keyword_text keyword.Node = codes "node"
keyword_text keyword.With = codes "with"
keyword_text keyword.Above = codes "above"
keyword_text keyword.Rank = codes "rank"
keyword_text keyword.Next = codes "next"

-- the word names a sort
abbrev pub names_sort : Option (List ℕ) → Bool
names_sort None = false
names_sort (Some text) = is_some (sort_named text)

-- the token belongs to the class. Classes overlap: a label is any word, a role any word but rec and end. No class has the end of
-- the text or a faulty token
abbrev pub accepts : Class → Sign → Bool
accepts (class.Keyword word) t = is_keyword (keyword_text word) t
accepts class.Sort t = names_sort (plain_text t)
accepts class.Role t = is_some (plain_text t)
accepts class.Label t = is_some (word_text t)
accepts class.Rec rec_word = true
accepts class.End end_word = true
accepts class.Number (number value) = true
accepts class.Arrow arrow = true
accepts class.Bang bang = true
accepts class.Question question = true
accepts class.Colon colon = true
accepts class.Dot dot = true
accepts class.Comma comma = true
accepts class.OpenBrace open_brace = true
accepts class.CloseBrace close_brace = true
accepts class.OpenParen open_paren = true
accepts class.CloseParen close_paren = true
accepts class.OpenBracket open_bracket = true
accepts class.CloseBracket close_bracket = true
accepts _ _ = false

-- the words that some class tells apart from others
abbrev pub special_words : List (List ℕ)
special_words =
    codes "roles" ∷ codes "protocol" ∷ codes "machine" ∷ codes "table" ∷ codes "derivation" ∷ codes "format" ∷ codes "bound" ∷ codes "pending" ∷ codes "node" ∷ codes "with" ∷ codes "above" ∷ codes "rank"
    ∷ codes "next" ∷ codes "unit" ∷ codes "bool" ∷ codes "nat" ∷ codes "int" ∷ codes "bytes" ∷ codes "list" ∷ []

-- one token of each kind: each other token belongs to the same classes as one of these
abbrev pub samples : List Sign
samples =
    plain (codes "x") ∷ rec_word ∷ end_word ∷ number 0 ∷ arrow ∷ bang ∷ question ∷ colon ∷ dot ∷ comma ∷ open_brace ∷ close_brace ∷ open_paren ∷ close_paren ∷ open_bracket ∷ close_bracket ∷ finish
    ∷ broken faulty.BadByte ∷ map plain special_words
