-- Public: what the code's tokens stand for.
use Rattle.std.specs.Prelude.{Result, Ok, Err}
use Rattle.rs_text.specs.declared.terminals.Terminal.{Terminal}
use Rattle.rs_text.specs.declared.terminals.Terminal.TheVariants as terminal
use Rattle.rs_text.specs.declared.tokens.FaultKind.{FaultKind}
use Rattle.rs_text.specs.declared.tokens.TokenKind.{TokenKind}
use Rattle.rs_text.specs.declared.tokens.TokenKind.TheVariants as kind
use Rattle.rs_text.specs.Signs.{Sign, rec_word, end_word, plain, number, arrow, bang, question, colon, dot, comma, open_brace, close_brace, open_paren, close_paren, open_bracket, close_bracket}
use Rattle.rs_text.specs.Signs.{finish, broken}

-- the sign of what the code sees
abbrev pub terminal_sign : Terminal → Sign
terminal_sign terminal.Rec = rec_word
terminal_sign terminal.End = end_word
terminal_sign (terminal.Plain text) = plain text.now
terminal_sign (terminal.Number value) = number value
terminal_sign terminal.Arrow = arrow
terminal_sign terminal.Bang = bang
terminal_sign terminal.Question = question
terminal_sign terminal.Colon = colon
terminal_sign terminal.Dot = dot
terminal_sign terminal.Comma = comma
terminal_sign terminal.OpenBrace = open_brace
terminal_sign terminal.CloseBrace = close_brace
terminal_sign terminal.OpenParen = open_paren
terminal_sign terminal.CloseParen = close_paren
terminal_sign terminal.OpenBracket = open_bracket
terminal_sign terminal.CloseBracket = close_bracket
terminal_sign terminal.Finish = finish
terminal_sign (terminal.Faulty kind) = broken kind

-- the kind of a token with this sign, or why it is none
abbrev pub token_kind : Sign → Result TokenKind FaultKind
token_kind rec_word = Ok kind.Word
token_kind end_word = Ok kind.Word
token_kind (plain text) = Ok kind.Word
token_kind (number value) = Ok kind.Number
token_kind arrow = Ok kind.Arrow
token_kind bang = Ok kind.Bang
token_kind question = Ok kind.Question
token_kind colon = Ok kind.Colon
token_kind dot = Ok kind.Dot
token_kind comma = Ok kind.Comma
token_kind open_brace = Ok kind.OpenBrace
token_kind close_brace = Ok kind.CloseBrace
token_kind open_paren = Ok kind.OpenParen
token_kind close_paren = Ok kind.CloseParen
token_kind open_bracket = Ok kind.OpenBracket
token_kind close_bracket = Ok kind.CloseBracket
token_kind finish = Ok kind.Finish
token_kind (broken kind) = Err kind
