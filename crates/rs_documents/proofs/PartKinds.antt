-- What is known of machines, as bodies or as tables, and of derivations, as parts of a text.
use Rattle.std.proofs.Common.{◌≡◌, ◌⊎◌, inl, inr, ℕ, ◌+◌, ◌<◌, ◌≤◌, List, [], ◌∷◌, ◌++◌, length, Bool, true, false, refl, sym, ap, subst, ◌∙◌, arith}
use Rattle.std.specs.Prelude.{codes, ◌&&◌, ◌||◌}
use Rattle.rs_documents.specs.Parts.{BeginsAt, FailsOwn, InTable, InBody, NextTokenIs, machine_parts, derivation_parts}
use Rattle.rs_documents.specs.Reading.{is_this_word, machine_word}
use Rattle.rs_documents.specs.Spells.{SpellsOwn}
use Rattle.rs_documents.proofs.FewLabels.{longer, machine_few}
use Rattle.rs_documents.proofs.Parts.{IsKind, RoleStands, among_place, first_sign, second_sign, word_is, word_isnt}
use Rattle.rs_model.specs.Data.{Names_data, Protocol_data, Machine_data}
use Rattle.rs_model.specs.declared.limits.TheConstants.{MOST_LABELS}
use Rattle.rs_derivations.specs.Derivations as derivations
use Rattle.rs_derivations.specs.Spells.{SpellsDerivation}
use Rattle.rs_derivations.proofs.Spelt as derivation_laws
use Rattle.rs_derive.specs.Data.{Derivation_data}
use Rattle.rs_global.specs.Spells.{SpellsProtocol}
use Rattle.rs_machines.specs.Spells.{SpellsMachine}
use Rattle.rs_global.specs.Graph.{no_names}
use Rattle.rs_global.specs.Kinds.{protocols}
use Rattle.rs_machines.specs.Kinds.{machines}
use Rattle.rs_machines.specs.Machines.{machine_of_tree}
use Rattle.rs_machines.specs.Trees.{MachineTree, machine_signs}
use Rattle.rs_bodies.proofs.GraphLaws as graphs
use Rattle.rs_machines.proofs.Places as machine_places
use Rattle.rs_bodies.proofs.OneFault as faults
use Rattle.rs_bodies.specs.GraphKinds.{GraphKind}
use Rattle.rs_bodies.proofs.GraphSpelling.{SpellsOf}
use Rattle.rs_bodies.specs.Openings.{Opening, of_role}
use Rattle.rs_bodies.specs.Spells.{OpeningFits}
use Rattle.rs_bodies.specs.declared.dialects.Dialect.{Dialect}
use Rattle.rs_tables.specs.Machines as tables
use Rattle.rs_tables.specs.Spells.{SpellsTable}
use Rattle.rs_tables.proofs.Spelt as table_laws
use Rattle.rs_text.proofs.Nexts.{within, next_is_next, are_lexed}
use Rattle.rs_text.specs.Lexemes.{Lexeme, is_last}
use Rattle.rs_text.specs.Lexing.{Lexed, next_lexeme}
use Rattle.rs_text.specs.Names.{is_among, number_or, place_of}
use Rattle.rs_text.specs.Signs.{Sign, plain, colon}
use Rattle.rs_text.specs.declared.faults.TextKind.{TextKind}
use Rattle.rs_bodies.specs.declared.dialects.Dialect.TheVariants.{Acts}
use Rattle.rs_bodies.specs.Graph.{labels_of}
use Rattle.rs_bodies.specs.Trees.{Body, body_signs}

until_within : (bytes : List ℕ) (at : ℕ) → at ≤ length bytes → (next_lexeme bytes at).until ≤ length bytes
until_within bytes at h = let w = within bytes at (next_lexeme bytes at) h (next_is_next bytes at) in w.inside

from_within : (bytes : List ℕ) (at : ℕ) → at ≤ length bytes → (next_lexeme bytes at).from ≤ length bytes
from_within bytes at h =
    let w = within bytes at (next_lexeme bytes at) h (next_is_next bytes at) in
    let order = w.order in
    let inside = w.inside in
    omega (arith, order, inside)

not_last : (x : Lexeme) (more : List Lexeme) (y : Lexeme) (b : Bool) → is_last x.sign ≡ b → (is_last x.sign ≡ true → (y ∷ more) ≡ []) → b ≡ false
not_last x more y true e h = let f : (y ∷ more) ≡ [] = h e in cc
not_last x more y false e h = refl

lexed_within : (bytes : List ℕ) (ls : List Lexeme) (at : ℕ) (b : Lexeme) (others : List Lexeme) → at ≤ length bytes → Lexed bytes at (ls ++ b ∷ others) → b.from ≤ length bytes
lexed_within bytes [] at b others le h = subst (λ (l : Lexeme). l.from ≤ length bytes) (sym h.0) (from_within bytes at le)
lexed_within bytes (x ∷ []) at b others le h =
    let last : is_last x.sign ≡ false = not_last x others b (is_last x.sign) refl h.1 in
    lexed_within bytes [] x.until b others (subst (λ (l : Lexeme). l.until ≤ length bytes) (sym h.0) (until_within bytes at le)) (h.2 last)
lexed_within bytes (x ∷ z ∷ ls) at b others le h =
    let last : is_last x.sign ≡ false = not_last x (ls ++ b ∷ others) z (is_last x.sign) refl h.1 in
    lexed_within bytes (z ∷ ls) x.until b others (subst (λ (l : Lexeme). l.until ≤ length bytes) (sym h.0) (until_within bytes at le)) (h.2 last)

graph_within : {d : Dialect} {G : Type 0} (kind : GraphKind d G) (bytes : List ℕ) (at : ℕ) (old new : Names_data) (graph : G) (until : ℕ) → at ≤ length bytes
    → SpellsOf kind bytes at old new graph until → until ≤ length bytes
graph_within kind bytes at old new graph until le s =
    let p = s in
    subst (λ (n : ℕ). n ≤ length bytes) (sym p.goes_on) (lexed_within bytes p.lexemes at p.behind p.others le (are_lexed bytes (p.lexemes ++ p.behind ∷ p.others) at p.tokens))

pub protocol_within : (bytes : List ℕ) (names : Names_data) (protocol : Protocol_data) (until : ℕ) → SpellsProtocol bytes 0 names protocol until → until ≤ length bytes
protocol_within bytes names protocol until s = graph_within protocols bytes 0 no_names names protocol until (omega arith) s

first_known : (a b : Bool) → (a && b) ≡ true → a ≡ true
first_known true b e = refl
first_known false b e = absurd cc

-- machines as bodies of acts

-- the word of a machine's opening, and how its tokens begin
pub record IsMachineLine (old : Names_data) (t : MachineTree) : Type 0 where
  pub role : List ℕ
  pub signs : machine_signs t ≡ plain (codes "machine") ∷ plain role ∷ colon ∷ body_signs Acts t.body
  pub known : is_among role old.roles ≡ true
  pub role_is : (machine_of_tree old t).role.0 ≡ number_or (place_of role old.roles)

line_of : (old : Names_data) (o : Opening Acts) (b : Body Acts) → OpeningFits Acts old o → IsMachineLine old (record { opening = o; body = b })
line_of old (of_role r) b fits = record { role = r; signs = refl; known = fits; role_is = refl }

pub machine_line : (bytes : List ℕ) (at : ℕ) (old new : Names_data) (machine : Machine_data) (until : ℕ) (s : SpellsMachine bytes at old new machine until) → IsMachineLine old s.tree
machine_line bytes at old new machine until s = line_of old s.tree.opening s.tree.body s.fits.opening

body_begins : (bytes : List ℕ) (at : ℕ) (old new : Names_data) (machine : Machine_data) (until : ℕ) → SpellsMachine bytes at old new machine until
    → NextTokenIs bytes at (plain (codes "machine"))
body_begins bytes at old new machine until s =
    let p = s in
    let l = machine_line bytes at old new machine until s in
    first_sign bytes at p.lexemes (p.behind ∷ p.others) (plain (codes "machine")) (plain l.role ∷ colon ∷ body_signs Acts p.tree.body) (p.spelt ∙ l.signs)
    (are_lexed bytes (p.lexemes ++ p.behind ∷ p.others) at p.tokens)

body_role : (bytes : List ℕ) (at : ℕ) (old new : Names_data) (machine : Machine_data) (until : ℕ) → SpellsMachine bytes at old new machine until → RoleStands bytes at old machine.role
body_role bytes at old new machine until s =
    let p = s in
    let l = machine_line bytes at old new machine until s in
    let k = among_place old.roles l.role 0 l.known in
    let lt : k.0 < 0 + length old.roles = k.2 in
    record {
      name = l.role;
      place = k.0;
      word = second_sign bytes at p.lexemes (p.behind ∷ p.others) (plain (codes "machine")) (plain l.role) (colon ∷ body_signs Acts p.tree.body) refl (p.spelt ∙ l.signs)
          (are_lexed bytes (p.lexemes ++ p.behind ∷ p.others) at p.tokens);
      known = k.1;
      bounded = omega (arith, lt);
      place_is = ap (λ (m : Machine_data). m.role.0) (s.meaning_is) ∙ l.role_is ∙ ap number_or k.1;
    }

-- machines as tables

table_begins : (bytes : List ℕ) (at : ℕ) (old new : Names_data) (machine : Machine_data) (until : ℕ) → SpellsTable bytes at old new machine until → NextTokenIs bytes at (plain (codes "table"))
table_begins bytes at old new machine until s =
    first_sign bytes at s.lexemes (s.behind ∷ s.others) (plain (codes "table")) _ s.spelt (are_lexed bytes (s.lexemes ++ s.behind ∷ s.others) at s.tokens)

table_role : (bytes : List ℕ) (at : ℕ) (old new : Names_data) (machine : Machine_data) (until : ℕ) → SpellsTable bytes at old new machine until → RoleStands bytes at old machine.role
table_role bytes at old new machine until s =
    let known : is_among s.tree.role old.roles ≡ true = first_known _ _ s.fits.roles in
    let p = among_place old.roles s.tree.role 0 known in
    let lt : p.0 < 0 + length old.roles = p.2 in
    record {
      name = s.tree.role;
      place = p.0;
      word = second_sign bytes at s.lexemes (s.behind ∷ s.others) (plain (codes "table")) (plain s.tree.role) _ refl s.spelt (are_lexed bytes (s.lexemes ++ s.behind ∷ s.others) at s.tokens);
      known = p.1;
      bounded = omega (arith, lt);
      place_is = ap (λ (m : Machine_data). m.role.0) s.machine_is ∙ ap (λ (z : Names_data). number_or (place_of s.tree.role z.roles)) s.names_are ∙ ap number_or p.1;
    }

table_within : (bytes : List ℕ) (at : ℕ) (old new : Names_data) (machine : Machine_data) (until : ℕ) → at ≤ length bytes → SpellsTable bytes at old new machine until → until ≤ length bytes
table_within bytes at old new machine until le s =
    subst (λ (n : ℕ). n ≤ length bytes) (sym s.goes_on) (lexed_within bytes s.lexemes at s.behind s.others le (are_lexed bytes (s.lexemes ++ s.behind ∷ s.others) at s.tokens))

-- machines in either form

abbrev IsMachineWord : Sign → Type 0
IsMachineWord s = (s ≡ plain (codes "machine")) ⊎ (s ≡ plain (codes "table"))

-- the test of the words with which a machine begins
pub machine_there : (s : Sign) → machine_word s ≡ true → IsMachineWord s
machine_there s e = go (is_this_word (codes "machine") s) (is_this_word (codes "table") s) refl refl e
  where
    go : (a b : Bool) → is_this_word (codes "machine") s ≡ a → is_this_word (codes "table") s ≡ b → (a || b) ≡ true → IsMachineWord s
    go true b m t h = inl (word_is (codes "machine") s m)
    go false true m t h = inr (word_is (codes "table") s t)
    go false false m t h = absurd cc

pub no_machine_there : (s : Sign) → machine_word s ≡ false → IsMachineWord s → ⊥
no_machine_there s e w = go (is_this_word (codes "machine") s) (is_this_word (codes "table") s) refl refl e w
  where
    go : (a b : Bool) → is_this_word (codes "machine") s ≡ a → is_this_word (codes "table") s ≡ b → (a || b) ≡ false → IsMachineWord s → ⊥
    go true b m t h w = absurd cc
    go false true m t h w = absurd cc
    go false false m t h (inl k) = word_isnt (codes "machine") s m k
    go false false m t h (inr k) = word_isnt (codes "table") s t k

machine_starts : (s : Sign) → IsMachineWord s ⊎ (IsMachineWord s → ⊥)
machine_starts s = go (machine_word s) refl
  where
    go : (b : Bool) → machine_word s ≡ b → IsMachineWord s ⊎ (IsMachineWord s → ⊥)
    go true e = inl (machine_there s e)
    go false e = inr (no_machine_there s e)

word_starts : (word : List ℕ) (s : Sign) → (s ≡ plain word) ⊎ (s ≡ plain word → ⊥)
word_starts word s = go (is_this_word word s) refl
  where
    go : (b : Bool) → is_this_word word s ≡ b → (s ≡ plain word) ⊎ (s ≡ plain word → ⊥)
    go true e = inl (word_is word s e)
    go false e = inr (word_isnt word s e)

-- a body of acts is no table
no_table : (bytes : List ℕ) (at : ℕ) (old new : Names_data) (machine : Machine_data) (until : ℕ) → SpellsMachine bytes at old new machine until → NextTokenIs bytes at (plain (codes "table")) → ⊥
no_table bytes at old new machine until s word = let clash : plain (codes "machine") ≡ plain (codes "table") = sym (body_begins bytes at old new machine until s) ∙ word in cc

pub machine_begins : (bytes : List ℕ) (at : ℕ) (old new : Names_data) (machine : Machine_data) (until : ℕ) → SpellsOwn bytes at old new machine until → BeginsAt machine_parts bytes at
machine_begins bytes at old new machine until (inl s) = inl (body_begins bytes at old new machine until s)
machine_begins bytes at old new machine until (inr s) = inr (table_begins bytes at old new machine until s)

pub machine_role : (bytes : List ℕ) (at : ℕ) (old new : Names_data) (machine : Machine_data) (until : ℕ) → SpellsOwn bytes at old new machine until → RoleStands bytes at old machine.role
machine_role bytes at old new machine until (inl s) = body_role bytes at old new machine until s
machine_role bytes at old new machine until (inr s) = table_role bytes at old new machine until s

machine_roles : (bytes : List ℕ) (at : ℕ) (old new : Names_data) (machine : Machine_data) (until : ℕ) → SpellsOwn bytes at old new machine until → new.roles ≡ old.roles
machine_roles bytes at old new machine until (inl s) = ap (λ (z : Names_data). z.roles) s.names_are
machine_roles bytes at old new machine until (inr s) = ap (λ (z : Names_data). z.roles) s.names_are

machine_labels : (bytes : List ℕ) (at : ℕ) (old new : Names_data) (machine : Machine_data) (until : ℕ) → SpellsOwn bytes at old new machine until → length old.labels ≤ length new.labels
machine_labels bytes at old new machine until (inl s) = subst (λ (z : Names_data). length old.labels ≤ length z.labels) (sym s.names_are) (longer (labels_of Acts s.tree.body) old.labels)
machine_labels bytes at old new machine until (inr s) = subst (λ (z : Names_data). length old.labels ≤ length z.labels) (sym s.names_are) (longer (tables.labels_of_rows s.tree.rows) old.labels)

machine_within : (bytes : List ℕ) (at : ℕ) (old new : Names_data) (machine : Machine_data) (until : ℕ) → at ≤ length bytes → SpellsOwn bytes at old new machine until → until ≤ length bytes
machine_within bytes at old new machine until le (inl s) = graph_within machines bytes at old new machine until le s
machine_within bytes at old new machine until le (inr s) = table_within bytes at old new machine until le s

one_machine : (bytes : List ℕ) (at : ℕ) (old new other : Names_data) (machine another : Machine_data) (until stop : ℕ) → SpellsOwn bytes at old new machine until
    → SpellsOwn bytes at old other another stop → (new ≡ other) × (machine ≡ another) × (until ≡ stop)
one_machine bytes at old new other machine another until stop (inl s) (inl k) =
    graphs.one_spelling machines machine_places.is_kind.made old bytes at new other machine another until stop s k
one_machine bytes at old new other machine another until stop (inl s) (inr k) = absurd (no_table bytes at old new machine until s (table_begins bytes at old other another stop k))
one_machine bytes at old new other machine another until stop (inr s) (inl k) = absurd (no_table bytes at old other another stop k (table_begins bytes at old new machine until s))
one_machine bytes at old new other machine another until stop (inr s) (inr k) = table_laws.one_spelling old new other bytes at until stop machine another s k

one_machine_fault : (bytes : List ℕ) (at : ℕ) (old : Names_data) (j k : TextKind) (n i : ℕ) → length old.labels ≤ MOST_LABELS → FailsOwn old bytes at j n → FailsOwn old bytes at k i
    → (j ≡ k) × (n ≡ i)
one_machine_fault bytes at old j k n i few (InTable w f) (InTable v g) = table_laws.one_fault old few bytes at j k n i f g
one_machine_fault bytes at old j k n i few (InTable w f) (InBody v g) = absurd (v w)
one_machine_fault bytes at old j k n i few (InBody w f) (InTable v g) = absurd (w v)
one_machine_fault bytes at old j k n i few (InBody w f) (InBody v g) = faults.one_fault Acts old bytes at j k n i f g

machine_or_fault : (bytes : List ℕ) (at : ℕ) (old new : Names_data) (machine : Machine_data) (until : ℕ) (k : TextKind) (offset : ℕ) → length old.labels ≤ MOST_LABELS
    → SpellsOwn bytes at old new machine until → FailsOwn old bytes at k offset → ⊥
machine_or_fault bytes at old new machine until k offset few (inl s) (InTable w f) = no_table bytes at old new machine until s w
machine_or_fault bytes at old new machine until k offset few (inl s) (InBody w f) = graphs.spelt_no_fault machines old bytes at new machine until k offset s f
machine_or_fault bytes at old new machine until k offset few (inr s) (InTable w f) = table_laws.spelt_no_fault old new bytes at until machine k offset few s f
machine_or_fault bytes at old new machine until k offset few (inr s) (InBody w f) = w (table_begins bytes at old new machine until s)

abbrev SpeltOrFaulty : Names_data → List ℕ → ℕ → Type 0
SpeltOrFaulty old bytes at =
    ((new : Names_data) × (machine : Machine_data) × (until : ℕ) × SpellsOwn bytes at old new machine until) ⊎ ((k : TextKind) × (offset : ℕ) × FailsOwn old bytes at k offset)

table_either : (bytes : List ℕ) (at : ℕ) (old : Names_data) → length old.labels ≤ MOST_LABELS → at ≤ length bytes → NextTokenIs bytes at (plain (codes "table")) → SpeltOrFaulty old bytes at
table_either bytes at old few le word = elim (table_laws.spelt_or_faulty old bytes at few le) [
  | inl h ↦ inl (h.0, h.1, h.2, inr h.3)
  | inr f ↦ inr (f.0, f.1, InTable word f.2)
]

body_either : (bytes : List ℕ) (at : ℕ) (old : Names_data) → at ≤ length bytes → (NextTokenIs bytes at (plain (codes "table")) → ⊥) → SpeltOrFaulty old bytes at
body_either bytes at old le none = elim (graphs.spelt_or_faulty machines machine_places.is_kind.made old bytes at le) [
  | inl h ↦ inl (h.0, h.1, h.2, inl h.3)
  | inr f ↦ inr (f.0, f.1, InBody none f.2)
]

machine_either : (bytes : List ℕ) (at : ℕ) (old : Names_data) → length old.labels ≤ MOST_LABELS → at ≤ length bytes → SpeltOrFaulty old bytes at
machine_either bytes at old few le = elim (word_starts (codes "table") (next_lexeme bytes at).sign) [
  | inl word ↦ table_either bytes at old few le word
  | inr none ↦ body_either bytes at old le none
]

pub of_machines : IsKind machine_parts
of_machines = record {
  starts = machine_starts;
  begins = machine_begins;
  role = machine_role;
  roles = machine_roles;
  labels = machine_labels;
  bounded = machine_few;
  within = machine_within;
  one = one_machine;
  one_fault = one_machine_fault;
  not_both = machine_or_fault;
  either = machine_either;
}

-- derivations
derivation_within : (bytes : List ℕ) (at : ℕ) (old new : Names_data) (derivation : Derivation_data) (until : ℕ) → at ≤ length bytes → SpellsDerivation bytes at old new derivation until
    → until ≤ length bytes
derivation_within bytes at old new derivation until le s =
    subst (λ (n : ℕ). n ≤ length bytes) (sym s.goes_on) (lexed_within bytes s.lexemes at s.behind s.others le (are_lexed bytes (s.lexemes ++ s.behind ∷ s.others) at s.tokens))

derivation_begins : (bytes : List ℕ) (at : ℕ) (old new : Names_data) (derivation : Derivation_data) (until : ℕ) → SpellsDerivation bytes at old new derivation until
    → NextTokenIs bytes at (plain (codes "derivation"))
derivation_begins bytes at old new derivation until s =
    first_sign bytes at s.lexemes (s.behind ∷ s.others) (plain (codes "derivation")) _ s.spelt (are_lexed bytes (s.lexemes ++ s.behind ∷ s.others) at s.tokens)

derivation_role : (bytes : List ℕ) (at : ℕ) (old new : Names_data) (derivation : Derivation_data) (until : ℕ) → SpellsDerivation bytes at old new derivation until
    → RoleStands bytes at old derivation.role
derivation_role bytes at old new derivation until s =
    let known : is_among s.tree.role old.roles ≡ true = first_known _ _ s.fits.roles in
    let p = among_place old.roles s.tree.role 0 known in
    let lt : p.0 < 0 + length old.roles = p.2 in
    record {
      name = s.tree.role;
      place = p.0;
      word = second_sign bytes at s.lexemes (s.behind ∷ s.others) (plain (codes "derivation")) (plain s.tree.role) _ refl s.spelt (are_lexed bytes (s.lexemes ++ s.behind ∷ s.others) at s.tokens);
      known = p.1;
      bounded = omega (arith, lt);
      place_is = ap (λ (d : Derivation_data). d.role.0) s.derivation_is ∙ ap (λ (z : Names_data). number_or (place_of s.tree.role z.roles)) s.names_are ∙ ap number_or p.1;
    }

derivation_roles : (bytes : List ℕ) (at : ℕ) (old new : Names_data) (derivation : Derivation_data) (until : ℕ) → SpellsDerivation bytes at old new derivation until → new.roles ≡ old.roles
derivation_roles bytes at old new derivation until s = ap (λ (z : Names_data). z.roles) s.names_are

derivation_labels : (bytes : List ℕ) (at : ℕ) (old new : Names_data) (derivation : Derivation_data) (until : ℕ) → SpellsDerivation bytes at old new derivation until
    → length old.labels ≤ length new.labels
derivation_labels bytes at old new derivation until s = subst (λ (z : Names_data). length old.labels ≤ length z.labels) (sym s.names_are) (longer (derivations.labels_of_acts (derivations.acts_of s.tree)) old.labels)

pub of_derivations : IsKind derivation_parts
of_derivations = record {
  starts = word_starts (codes "derivation");
  begins = derivation_begins;
  role = derivation_role;
  roles = derivation_roles;
  labels = derivation_labels;
  bounded = λ bytes at old new derivation until few s. subst (λ (z : Names_data). length z.labels ≤ MOST_LABELS) (sym s.names_are) s.fits.labels;
  within = derivation_within;
  one = λ bytes at old new other part another until stop h k. derivation_laws.one_spelling old new other bytes at until stop part another h k;
  one_fault = λ bytes at old j k n i few h g. derivation_laws.one_fault old few bytes at j k n i h g;
  not_both = λ bytes at old new part until k offset few h g. derivation_laws.spelt_no_fault old new bytes at until part k offset few h g;
  either = λ bytes at old few le. derivation_laws.spelt_or_faulty old bytes at few le;
}
