-- What a text spells as a graph, and its first fault, by the laws of parts.
use Rattle.std.proofs.Common.{◌≡◌, ℕ, ◌≤◌, ◌⊎◌, List, ◌∷◌, ◌++◌, length, Result, Ok, Err, inl, inr, refl, sym, ap, ◌∙◌, subst}
use Rattle.rs_model.specs.Data.{Names_data}
use Rattle.rs_text.specs.declared.faults.TextFault.{TextFault}
use Rattle.rs_text.specs.declared.faults.TextKind.{TextKind}
use Rattle.rs_text.proofs.Keeping.{tokens}
use Rattle.rs_text.specs.Sound.{IsSound}
use Rattle.rs_bodies.specs.declared.dialects.Dialect.{Dialect}
use Rattle.rs_bodies.specs.Data.{Spelling_data}
use Rattle.rs_bodies.specs.Faults.{FirstFault}
use Rattle.rs_bodies.specs.Feeding.{PartAnswer, ReadsAs, first_roles}
use Rattle.rs_bodies.specs.GraphKinds.{GraphKind}
use Rattle.rs_bodies.proofs.GraphSpelling.{SpellsOf}
use Rattle.rs_bodies.specs.Spellings.{Spells, spelling_of}
use Rattle.rs_bodies.specs.Spells.{Tree, names_of}
use Rattle.rs_bodies.specs.GraphAnswers.{GraphAnswer, ReadsGraph, graph_of_answer}
use Rattle.rs_bodies.proofs.Answers as answers
use Rattle.rs_bodies.proofs.OneFault as faults
use Rattle.rs_bodies.proofs.Sounding as sounding
use Rattle.rs_bodies.proofs.SpeltLaws as parts
use Rattle.rs_bodies.proofs.SpeltRuns as runs

-- ---- what a text spells as a part, and as a graph

-- the reader makes the graph of a tree of what the tree spells
abbrev pub IsMade : {d : Dialect} {G : Type 0} → GraphKind d G → Type 0
IsMade {d} kind = (old : Names_data) (t : Tree d) → kind.graph_of old t ≡ kind.made (names_of d old t) (spelling_of d old t)

-- of what a part spells it makes the graph that the text spells
pub graph_spelt : {d : Dialect} {G : Type 0} (kind : GraphKind d G) → IsMade kind → (bytes : List ℕ) (at : ℕ) (old names : Names_data) (spelling : Spelling_data) (until : ℕ)
    → Spells d bytes at old names spelling until → SpellsOf kind bytes at old names (kind.made names spelling) until
graph_spelt {d} kind made bytes at old names spelling until s = record {
  tree = s.tree;
  lexemes = s.lexemes;
  behind = s.behind;
  others = s.others;
  tokens = s.tokens;
  spelt = s.spelt;
  settled = s.settled;
  fits = s.fits;
  names_are = s.names_are;
  meaning_is = ap (λ z. kind.made z spelling) s.names_are ∙ ap (λ z. kind.made (names_of d old s.tree) z) s.meaning_is ∙ sym (made old s.tree);
  goes_on = s.goes_on;
}

-- a text that spells a graph spells a part
abbrev pub part_spelt : {d : Dialect} {G : Type 0} (kind : GraphKind d G) (bytes : List ℕ) (at : ℕ) (old names : Names_data) (graph : G) (until : ℕ) (s : SpellsOf kind bytes at old names graph until)
    → Spells d bytes at old names (spelling_of d old s.tree) until
part_spelt kind bytes at old names graph until s = record {
  tree = s.tree;
  lexemes = s.lexemes;
  behind = s.behind;
  others = s.others;
  tokens = s.tokens;
  spelt = s.spelt;
  settled = s.settled;
  fits = s.fits;
  names_are = s.names_are;
  meaning_is = refl;
  goes_on = s.goes_on;
}

-- of which the reader makes the graph
pub part_made : {d : Dialect} {G : Type 0} (kind : GraphKind d G) → IsMade kind → (bytes : List ℕ) (at : ℕ) (old names : Names_data) (graph : G) (until : ℕ)
    → (s : SpellsOf kind bytes at old names graph until) → graph ≡ kind.made names (spelling_of d old s.tree)
part_made {d} kind made bytes at old names graph until s = s.meaning_is ∙ made old s.tree ∙ ap (λ z. kind.made z (spelling_of d old s.tree)) (sym s.names_are)

-- ---- answers

abbrev answer : {G : Type 0} → Names_data → G → ℕ → GraphAnswer G
answer names graph until = record { names = names; graph = graph; until = until }

abbrev good : {G : Type 0} → GraphAnswer G → Result (GraphAnswer G) TextFault
good a = Ok a

good_is : {G : Type 0} (x y : GraphAnswer G) → good x ≡ good y → x ≡ y
good_is x y h = cc

of_err : {d : Dialect} {G : Type 0} (kind : GraphKind d G) (x : Result PartAnswer TextFault) (e : TextFault) → graph_of_answer kind x ≡ Err e → x ≡ Err e
of_err kind (Ok a) e h = cc
of_err kind (Err g) e h = cc

of_ok : {d : Dialect} {G : Type 0} (kind : GraphKind d G) (x : Result PartAnswer TextFault) (a : GraphAnswer G) → graph_of_answer kind x ≡ Ok a
    → (b : PartAnswer) × (x ≡ Ok b) × (answer b.names (kind.made b.names b.spelling) b.until ≡ a)
of_ok kind (Ok b) a h = (b, refl, good_is (answer b.names (kind.made b.names b.spelling) b.until) a h)
of_ok kind (Err e) a h = cc

-- what is read as a part is read as its graph
read_as : {d : Dialect} {G : Type 0} (kind : GraphKind d G) (old : Names_data) (bytes : List ℕ) (at : ℕ) (x : Result PartAnswer TextFault) → ReadsAs d old bytes at x
    → ReadsGraph kind old bytes at (graph_of_answer kind x)
read_as kind old bytes at x h = λ ls lexed. ap (graph_of_answer kind) (h ls lexed)

pub an_answer : {d : Dialect} {G : Type 0} (kind : GraphKind d G) (old : Names_data) (bytes : List ℕ) (at : ℕ) → at ≤ length bytes
    → (answer : Result (GraphAnswer G) TextFault) × ReadsGraph kind old bytes at answer
an_answer {d} kind old bytes at within = let a = answers.an_answer d old bytes at within in (graph_of_answer kind a.0, read_as kind old bytes at a.0 a.1)

pub one_answer : {d : Dialect} {G : Type 0} (kind : GraphKind d G) (old : Names_data) (bytes : List ℕ) (at : ℕ) (x y : Result (GraphAnswer G) TextFault) → at ≤ length bytes
    → ReadsGraph kind old bytes at x → ReadsGraph kind old bytes at y → x ≡ y
one_answer kind old bytes at x y h p q = let t = tokens bytes at h in sym (p t.0 t.1) ∙ q t.0 t.1

-- what is read as a graph is read as a part
part_read : {d : Dialect} {G : Type 0} (kind : GraphKind d G) (old : Names_data) (bytes : List ℕ) (at : ℕ) (x : Result (GraphAnswer G) TextFault) → at ≤ length bytes → ReadsGraph kind old bytes at x
    → (y : Result PartAnswer TextFault) × ReadsAs d old bytes at y × (graph_of_answer kind y ≡ x)
part_read {d} kind old bytes at x within h =
    let a = answers.an_answer d old bytes at within in
    (a.0, a.1, one_answer kind old bytes at (graph_of_answer kind a.0) x within (read_as kind old bytes at a.0 a.1) h)

-- a graph that is read, as the part that it is made of
record IsReadPart {d : Dialect} {G : Type 0} (kind : GraphKind d G) (old : Names_data) (bytes : List ℕ) (at : ℕ) (a : GraphAnswer G) : Type 0 where
  part : PartAnswer
  read : ReadsAs d old bytes at (Ok part)
  answer_is : answer part.names (kind.made part.names part.spelling) part.until ≡ a

read_part : {d : Dialect} {G : Type 0} (kind : GraphKind d G) (old : Names_data) (bytes : List ℕ) (at : ℕ) (a : GraphAnswer G) → at ≤ length bytes → ReadsGraph kind old bytes at (Ok a)
    → IsReadPart kind old bytes at a
read_part {d} kind old bytes at a within h =
    let p = part_read kind old bytes at (Ok a) within h in
    let b = of_ok kind p.0 a p.2 in
    record { part = b.0; read = subst (λ (z : Result PartAnswer TextFault). ReadsAs d old bytes at z) b.1 p.1; answer_is = b.2 }

-- a text that is read as a graph spells it
pub sound : {d : Dialect} {G : Type 0} (kind : GraphKind d G) → IsMade kind → (old : Names_data) (bytes : List ℕ) (at : ℕ) (a : GraphAnswer G) → at ≤ length bytes → ReadsGraph kind old bytes at (Ok a)
    → SpellsOf kind bytes at old a.names a.graph a.until
sound {d} {G} kind made old bytes at a within h =
    let p = read_part kind old bytes at a within h in
    subst (λ (z : GraphAnswer G). SpellsOf kind bytes at old z.names z.graph z.until) p.answer_is
    (graph_spelt kind made bytes at old p.part.names p.part.spelling p.part.until (runs.sound d old bytes at p.part within p.read))

-- a text that spells a graph is read as it
pub complete : {d : Dialect} {G : Type 0} (kind : GraphKind d G) → IsMade kind → (old : Names_data) (bytes : List ℕ) (at : ℕ) (names : Names_data) (graph : G) (until : ℕ)
    → SpellsOf kind bytes at old names graph until → ReadsGraph kind old bytes at (Ok (record { names = names; graph = graph; until = until }))
complete {d} kind made old bytes at names graph until s = λ ls lexed.
    ap (graph_of_answer kind) (runs.complete d old bytes at names (spelling_of d old s.tree) until (part_spelt kind bytes at old names graph until s) ls lexed)
    ∙ ap (λ z. good (answer names z until)) (sym (part_made kind made bytes at old names graph until s))

-- what is read has names that texts can have
pub is_sound : {d : Dialect} {G : Type 0} (kind : GraphKind d G) (old : Names_data) (bytes : List ℕ) (at : ℕ) (a : GraphAnswer G) → old.roles ≡ first_roles d old → IsSound old → at ≤ length bytes
    → ReadsGraph kind old bytes at (Ok a) → IsSound a.names
is_sound {d} {G} kind old bytes at a first before within h =
    let p = read_part kind old bytes at a within h in
    subst (λ (z : GraphAnswer G). IsSound z.names) p.answer_is (sounding.is_sound d old bytes at p.part first before within p.read)

-- a text spells one graph at most
pub one_spelling : {d : Dialect} {G : Type 0} (kind : GraphKind d G) → IsMade kind → (old : Names_data) (bytes : List ℕ) (at : ℕ) (names others : Names_data) (graph other : G) (until stop : ℕ)
    → SpellsOf kind bytes at old names graph until → SpellsOf kind bytes at old others other stop
    → (names ≡ others) × (graph ≡ other) × (until ≡ stop)
one_spelling {d} kind made old bytes at names others graph other until stop s k =
    let x = spelling_of d old s.tree in
    let y = spelling_of d old k.tree in
    let same = parts.one_spelling d old bytes at names others x y until stop (part_spelt kind bytes at old names graph until s) (part_spelt kind bytes at old others other stop k) in
    let graphs : graph ≡ other
    = part_made kind made bytes at old names graph until s ∙ ap (λ z. kind.made z x) same.0 ∙ ap (λ z. kind.made others z) same.1 ∙ sym (part_made kind made bytes at old others other stop k) in
    (same.0, graphs, same.2)

abbrev SpeltOrFaulty : {d : Dialect} {G : Type 0} → GraphKind d G → Names_data → List ℕ → ℕ → Type 0
SpeltOrFaulty {d} {G} kind old bytes at =
    ((names : Names_data) × (graph : G) × (until : ℕ) × SpellsOf kind bytes at old names graph until) ⊎ ((kind : TextKind) × (offset : ℕ) × FirstFault d old bytes at kind offset)

-- a text spells a graph or has a fault
pub spelt_or_faulty : {d : Dialect} {G : Type 0} (kind : GraphKind d G) → IsMade kind → (old : Names_data) (bytes : List ℕ) (at : ℕ) → at ≤ length bytes → SpeltOrFaulty kind old bytes at
spelt_or_faulty {d} kind made old bytes at within = elim (parts.spelt_or_faulty d old bytes at within) [
  | inl x ↦ inl (x.0, kind.made x.0 x.1, x.2, graph_spelt kind made bytes at old x.0 x.1 x.2 x.3)
  | inr x ↦ inr x
]

-- a text that spells a graph is read, and has no first fault
pub spelt_is_read : {d : Dialect} {G : Type 0} (kind : GraphKind d G) → IsMade kind → (old : Names_data) (bytes : List ℕ) (at : ℕ) (names : Names_data) (graph : G) (until : ℕ)
    → SpellsOf kind bytes at old names graph until → (answer : GraphAnswer G) × ReadsGraph kind old bytes at (Ok answer)
spelt_is_read kind made old bytes at names graph until s = (answer names graph until, complete kind made old bytes at names graph until s)

pub spelt_no_fault : {d : Dialect} {G : Type 0} (kind : GraphKind d G) (old : Names_data) (bytes : List ℕ) (at : ℕ) (names : Names_data) (graph : G) (until : ℕ) (k : TextKind) (offset : ℕ)
    → SpellsOf kind bytes at old names graph until → FirstFault d old bytes at k offset → ⊥
spelt_no_fault {d} kind old bytes at names graph until k offset s f =
    parts.spelt_no_fault d old bytes at names (spelling_of d old s.tree) until k offset (part_spelt kind bytes at old names graph until s) f

-- ---- first faults

pub first_fault : {d : Dialect} {G : Type 0} (kind : GraphKind d G) (old : Names_data) (bytes : List ℕ) (at : ℕ) (e : TextFault) → at ≤ length bytes → ReadsGraph kind old bytes at (Err e)
    → FirstFault d old bytes at e.kind e.at
first_fault {d} kind old bytes at e within h =
    let p = part_read kind old bytes at (Err e) within h in
    faults.first_fault d old bytes at e within (subst (λ (z : Result PartAnswer TextFault). ReadsAs d old bytes at z) (of_err kind p.0 e p.2) p.1)

pub tells : {d : Dialect} {G : Type 0} (kind : GraphKind d G) (old : Names_data) (bytes : List ℕ) (at : ℕ) (k : TextKind) (offset : ℕ) → FirstFault d old bytes at k offset
    → ReadsGraph kind old bytes at (Err (record { kind = k; at = offset }))
tells {d} kind old bytes at k offset f = read_as kind old bytes at (Err (record { kind = k; at = offset })) (faults.tells d old bytes at k offset f)

pub no_fault : {d : Dialect} {G : Type 0} (kind : GraphKind d G) (old : Names_data) (bytes : List ℕ) (at : ℕ) (a : GraphAnswer G) (k : TextKind) (offset : ℕ) → ReadsGraph kind old bytes at (Ok a)
    → FirstFault d old bytes at k offset → ⊥
no_fault kind old bytes at a k offset h f =
    let ls = f.before ++ f.token ∷ f.others in
    absurd (cc (sym (h ls f.lexed) ∙ tells kind old bytes at k offset f ls f.lexed))
