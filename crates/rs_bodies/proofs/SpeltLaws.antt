-- What spelling and reading say of each other.
use Rattle.std.proofs.Common.{◌≡◌, ℕ, ◌≤◌, ◌⊎◌, List, ◌∷◌, ◌++◌, length, Result, Ok, Err, inl, inr, sym, ap, ◌∙◌}
use Rattle.rs_model.specs.Data.{Names_data}
use Rattle.rs_text.specs.declared.faults.TextFault.{TextFault}
use Rattle.rs_text.specs.declared.faults.TextKind.{TextKind}
use Rattle.rs_text.proofs.Nexts.{are_lexed}
use Rattle.rs_bodies.specs.declared.dialects.Dialect.{Dialect}
use Rattle.rs_bodies.specs.Data.{Spelling_data}
use Rattle.rs_bodies.specs.Faults.{FirstFault}
use Rattle.rs_bodies.specs.Feeding.{PartAnswer, ReadsAs}
use Rattle.rs_bodies.specs.Spellings.{Spells}
use Rattle.rs_bodies.proofs.Answers.{an_answer}
use Rattle.rs_bodies.proofs.OneFault.{no_fault, first_fault}
use Rattle.rs_bodies.proofs.SpeltRuns.{sound, complete}

abbrev answer : Names_data → Spelling_data → ℕ → PartAnswer
answer names spelling until = record { names = names; spelling = spelling; until = until }

abbrev good : PartAnswer → Result PartAnswer TextFault
good a = Ok a

good_is : (x y : PartAnswer) → good x ≡ good y → x ≡ y
good_is x y h = cc

abbrev names : List (List ℕ) → List (List ℕ) → Names_data
names roles labels = record { roles = roles; labels = labels }

-- a text spells one thing at most
pub one_spelling : (dia : Dialect) (old : Names_data) (bytes : List ℕ) (at : ℕ) (names others : Names_data) (spelling other : Spelling_data) (until stop : ℕ)
    → Spells dia bytes at old names spelling until → Spells dia bytes at old others other stop → (names ≡ others) × (spelling ≡ other) × (until ≡ stop)
one_spelling dia old bytes at names others spelling other until stop s k =
    let ls = s.lexemes ++ s.behind ∷ s.others in
    let lexed = are_lexed bytes ls at s.tokens in
    let same : answer names spelling until ≡ answer others other stop
    = good_is (answer names spelling until) (answer others other stop) (sym (complete dia old bytes at names spelling until s ls lexed) ∙ complete dia old bytes at others other stop k ls lexed) in
    (ap (λ z. z.names) same, ap (λ z. z.spelling) same, ap (λ z. z.until) same)

abbrev SpeltOrFaulty : (dia : Dialect) (old : Names_data) → List ℕ → ℕ → Type 0
SpeltOrFaulty dia old bytes at =
    ((names : Names_data) × (spelling : Spelling_data) × (until : ℕ) × Spells dia bytes at old names spelling until) ⊎ ((kind : TextKind) × (offset : ℕ) × FirstFault dia old bytes at kind offset)

by_answer : (dia : Dialect) (old : Names_data) (bytes : List ℕ) (at : ℕ) (x : Result PartAnswer TextFault) → at ≤ length bytes → ReadsAs dia old bytes at x → SpeltOrFaulty dia old bytes at
by_answer dia old bytes at (Ok a) within h = inl (a.names, a.spelling, a.until, sound dia old bytes at a within h)
by_answer dia old bytes at (Err e) within h = inr (e.kind, e.at, first_fault dia old bytes at e within h)

-- a text spells a part or has a fault
pub spelt_or_faulty : (dia : Dialect) (old : Names_data) (bytes : List ℕ) (at : ℕ) → at ≤ length bytes → SpeltOrFaulty dia old bytes at
spelt_or_faulty dia old bytes at within = let a = an_answer dia old bytes at within in by_answer dia old bytes at a.0 within a.1

-- a text that a tree spells is read
pub spelt_is_read : (dia : Dialect) (old : Names_data) (bytes : List ℕ) (at : ℕ) (names : Names_data) (spelling : Spelling_data) (until : ℕ) → Spells dia bytes at old names spelling until
    → (answer : PartAnswer) × ReadsAs dia old bytes at (Ok answer)
spelt_is_read dia old bytes at names spelling until s = (answer names spelling until, complete dia old bytes at names spelling until s)

-- a text that a tree spells has no first fault
pub spelt_no_fault : (dia : Dialect) (old : Names_data) (bytes : List ℕ) (at : ℕ) (names : Names_data) (spelling : Spelling_data) (until : ℕ) (k : TextKind) (offset : ℕ)
    → Spells dia bytes at old names spelling until → FirstFault dia old bytes at k offset → ⊥
spelt_no_fault dia old bytes at names spelling until k offset s f = no_fault dia old bytes at (answer names spelling until) k offset (complete dia old bytes at names spelling until s) f
