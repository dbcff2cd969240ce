use Rattle.std.proofs.Common.{rules}
use Rattle.rs_text.proofs.TokenKinds.{token_stands, fault_stands}
use Rattle.rs_text.proofs.lexing.Lexer.next.Goals as goal

pub returns-in-Ok-clause-token : goal.returns-in-Ok-clause-token
returns-in-Ok-clause-token c = search (token_stands c.self.inside.bytes.now c.self.inside.at c.next_token-next.result c.in-Ok.kind c.next_token-next.ensures.token (search rules), rules)

pub returns-in-Err-clause-fault : goal.returns-in-Err-clause-fault
returns-in-Err-clause-fault c = search (fault_stands c.self.inside.bytes.now c.self.inside.at c.next_token-next.result c.in-Err.kind c.next_token-next.ensures.token (search rules), rules)
