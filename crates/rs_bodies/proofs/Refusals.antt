-- What the reader refuses is refused by the first fault of the text, or for want of memory.
use Rattle.std.proofs.Common.{Err, ◌∙◌, ◌≡◌, ℕ, List, length, ◌≤◌, inl, inr, ap, sym, subst}
use Rattle.rs_model.specs.Data.{Names_data}
use Rattle.rs_bodies.specs.Data.{Reader_data}
use Rattle.rs_text.specs.declared.faults.TextFault.{TextFault}
use Rattle.rs_text.specs.declared.faults.TextKind.{TextKind}
use Rattle.rs_text.specs.declared.faults.TextKind.TheVariants as kind
use Rattle.rs_text.specs.declared.reading.Stop.{Stop}
use Rattle.rs_text.specs.declared.reading.Stop.TheVariants as stops
use Rattle.rs_bodies.specs.Faults.{LeavesBy, KeepsBy}
use Rattle.std.proofs.Common.{Ok, refl}
use Rattle.rs_text.specs.Lexemes.{Lexeme}
use Rattle.rs_text.specs.Lexing.{Lexed}
use Rattle.rs_text.specs.Readings.{read_all, last_of}
use Rattle.rs_bodies.specs.Data.{Spelling_data}
use Rattle.rs_bodies.specs.Drafts.{names_read, spelling_read}
use Rattle.rs_bodies.specs.Spellings.{Spells}
use Rattle.rs_bodies.proofs.SpeltRuns.{sound}
use Rattle.rs_bodies.specs.Feeding.{HasLabels, start_of_part, feeding, first_roles, Leaves, Reads, answer_of_reading}
use Rattle.rs_text.specs.Readings.{fault_of_stop, StopsBy}
use Rattle.rs_bodies.proofs.OneFault.{leaves}
use Rattle.rs_text.proofs.Keeping.{tokens}
use Rattle.rs_bodies.specs.declared.dialects.Dialect.{Dialect}
use Rattle.rs_bodies.specs.declared.dialects.Dialect.TheVariants.{Talks, Acts}

left_by : (dia : Dialect) (old new : Names_data) (bytes : List ℕ) (at : ℕ) (ls : List Lexeme) (f : TextFault) → Lexed bytes at ls → read_all (feeding dia) (Ok (start_of_part dia old)) ls ≡ Err f
    → KeepsBy dia old new → (last_of (feeding dia) (start_of_part dia old) (Ok (start_of_part dia old)) ls).labels ≡ new.labels → LeavesBy dia old new bytes at f.kind f.at
left_by Talks old new bytes at ls f lexed h kept k = tt
left_by Acts old new bytes at ls f lexed h kept k = inr (leaves old new bytes at ls f lexed h kept.roles k)

-- refused memory leaves the labels of some first tokens
left_memory : (dia : Dialect) (old new : Names_data) (bytes : List ℕ) (at : ℕ) (k : TextKind) (offset : ℕ) → k ≡ kind.NoMemory → HasLabels dia old.labels new.labels bytes at → KeepsBy dia old new
    → LeavesBy dia old new bytes at k offset
left_memory Talks old new bytes at k offset e h kept = tt
left_memory Acts old new bytes at k offset e h kept = inl (
  e,
  record {
    before = h.0;
    others = h.1;
    lexed = h.2;
    names_are = ap (λ z. record { roles = z; labels = new.labels }) kept.roles ∙ ap (λ z. record { roles = old.roles; labels = z }) h.3;
  },
)

-- the reader begins with the names
pub begins_with : (dia : Dialect) (o : Reader_data) (old : Names_data) (roles labels : List (List ℕ)) → o ≡ start_of_part dia (record { roles = roles; labels = labels }) → roles ≡ old.roles
    → labels ≡ old.labels → o ≡ start_of_part dia old
begins_with dia o old roles labels e r l = e ∙ ap (λ z. start_of_part dia (record { roles = z; labels = labels })) r ∙ ap (λ z. start_of_part dia (record { roles = old.roles; labels = z })) l

names_begun : (dia : Dialect) (old : Names_data) → start_of_part dia old ≡ start_of_part dia (names_read (start_of_part dia old))
names_begun Talks old = refl
names_begun Acts old = refl

-- the names that the reader begins with are its own
pub begun : (dia : Dialect) (o : Reader_data) (old : Names_data) → o ≡ start_of_part dia old → o ≡ start_of_part dia (names_read o)
begun dia o old e = subst (λ (z : Reader_data). z ≡ start_of_part dia (names_read z)) (sym e) (names_begun dia old)

-- the names that it begins with are those that were there
pub names_first : (dia : Dialect) (o : Reader_data) (old : Names_data) → o ≡ start_of_part dia old → old.roles ≡ first_roles dia old → names_read o ≡ old
names_first dia o old e first = ap names_read e ∙ ap (λ z. record { roles = z; labels = old.labels }) (sym first)

pub left : (dia : Dialect) (s : Stop) (old new : Names_data) (o r : Reader_data) (bytes : List ℕ) (at : ℕ) (e : TextFault) → e ≡ fault_of_stop s at → o ≡ start_of_part dia old → at ≤ length bytes
    → StopsBy (feeding dia) s o bytes at → Leaves dia s o bytes at r.labels → new ≡ names_read r → old.roles ≡ first_roles dia old → KeepsBy dia (names_read o) (names_read r)
    → LeavesBy dia old new bytes at e.kind e.at
left dia stops.Memory old new o r bytes at e same first within h leave names roles kept =
    let begins : names_read o ≡ old = names_first dia o old first roles in
    let stays : KeepsBy dia old (names_read r) = subst (λ (z : Names_data). KeepsBy dia z (names_read r)) begins kept in
    let labels : HasLabels dia old.labels r.labels bytes at = subst (λ (z : Names_data). HasLabels dia z.labels r.labels bytes at) begins leave in
    subst (λ (z : Names_data). LeavesBy dia old z bytes at e.kind e.at) (sym names) (left_memory dia old (names_read r) bytes at e.kind e.at (ap (λ (z : TextFault). z.kind) same) labels stays)
left dia (stops.Fault f) old new o r bytes at e same first within h leave names roles kept =
    let t = tokens bytes at within in
    let reads : Reads dia (start_of_part dia old) bytes at (Err f) = subst (λ (z : Reader_data). Reads dia z bytes at (Err f)) first h in
    let labels_are : Leaves dia (stops.Fault f) (start_of_part dia old) bytes at r.labels = subst (λ (z : Reader_data). Leaves dia (stops.Fault f) z bytes at r.labels) first leave in
    let stays : KeepsBy dia old (names_read r) = subst (λ (z : Names_data). KeepsBy dia z (names_read r)) (names_first dia o old first roles) kept in
    subst (λ (z : TextFault). LeavesBy dia old new bytes at z.kind z.at) (sym same)
    (subst (λ (z : Names_data). LeavesBy dia old z bytes at f.kind f.at) (sym names) (left_by dia old (names_read r) bytes at t.0 f t.1 (reads t.0 t.1) stays (labels_are t.0 t.1)))

-- what the reader gives is spelt
pub reads_spelt : (dia : Dialect) (old new : Names_data) (bytes : List ℕ) (at : ℕ) (o r : Reader_data) (until : ℕ) (spelling : Spelling_data) → o ≡ start_of_part dia old → at ≤ length bytes
    → Reads dia o bytes at (Ok (record { reader = r; until = until })) → new ≡ names_read r → spelling ≡ spelling_read r → Spells dia bytes at old new spelling until
reads_spelt dia old new bytes at o r until spelling e within h same p =
    let reads : Reads dia (start_of_part dia old) bytes at (Ok (record { reader = r; until = until }))
    = subst (λ (z : Reader_data). Reads dia z bytes at (Ok (record { reader = r; until = until }))) e h in
    subst (λ (z : Names_data). Spells dia bytes at old z spelling until) (sym same)
    (subst (λ (z : Spelling_data). Spells dia bytes at old (names_read r) z until) (sym p)
    (sound dia old bytes at (record { names = names_read r; spelling = spelling_read r; until = until }) within (λ ls lexed. ap answer_of_reading (reads ls lexed))))
