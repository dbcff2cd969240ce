use Rattle.std.proofs.Common.{◌≡◌, ℕ, Ok, rules, subst}
use Rattle.rs_text.specs.Lexing.{next_lexeme}
use Rattle.rs_text.specs.Signs.{plain}
use Rattle.rs_bodies.specs.Ahead.{role_told}
use Rattle.rs_bodies.proofs.RolesTold.{body_told}
use Rattle.rs_bodies.proofs.reading.Reader.body.Goals as goal

pub returns-in_ok-is_role-in-Plain : goal.returns-in_ok-is_role-in-Plain
returns-in_ok-is_role-in-Plain c =
    let is_plain : c.args.token.now.sign ≡ plain c.in-Plain.word.now = search rules in
    let told : role_told c.args.dialect (next_lexeme c.args.bytes.now c.args.token.now.until).sign (next_lexeme c.args.bytes.now c.args.token.now.until).from ≡ Ok c.in_ok-is_role-in-Plain.is_role
    = subst (λ (z : ℕ). role_told c.args.dialect (next_lexeme c.args.bytes.now z).sign (next_lexeme c.args.bytes.now z).from ≡ Ok c.in_ok-is_role-in-Plain.is_role) c.until.ensures c.in_ok-is_role-in-Plain.ensures.ok in
    let body = body_told c.args.dialect c.args.from c.args.token.now.sign c.in-Plain.word.now (next_lexeme c.args.bytes.now c.args.token.now.until) c.args.token.now.from c.args.self.now c.in_ok-is_role-in-Plain.is_role is_plain told in
    search (body, rules)
