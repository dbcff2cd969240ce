use Rattle.std.proofs.Common.{◌≡◌, ◌<◌, ℕ, Bool, List, length, ap, refl, subst, subst₂, sym, ◌∙◌}
use Rattle.std.specs.List.{All}
use Rattle.rs_project.specs.Marks.{AreListed, flags_without}
use Rattle.rs_project.proofs.Walks.{listed_within, none_left, none_listed, none_resized}
use Rattle.rs_project.proofs.spreading.Marks.clear.Goals as goal

pub take_back-requires : goal.take_back-requires
take_back-requires c =
    let P : List ℕ → Type 0 = λ z. All (λ n. n < length c.self.inside.flags.items) z in
    subst P (sym c.deref.ensures.value) (listed_within c.self.inside.flags.items c.self.inside.numbers.items _ refl c.self.invariant)

pub invariant_of-self : goal.invariant_of-self
invariant_of-self c =
    let flags = c.self.inside.flags.items in
    let numbers = c.self.inside.numbers.items in
    let taken : c.take_back.new.flags.items ≡ flags_without numbers flags = c.take_back.ensures ∙ ap (λ (z : List ℕ). flags_without z flags) c.deref.ensures.value in
    let P : List Bool → List ℕ → Type 0 = λ y z. AreListed y z in
    subst₂ P (sym (c.in_err-resize.ensures.items ∙ taken)) (sym c.clear.ensures.items) (none_listed (flags_without numbers flags) (none_left flags numbers c.self.invariant))

pub invariant_of-self-2 : goal.invariant_of-self-2
invariant_of-self-2 c =
    let flags = c.self.inside.flags.items in
    let numbers = c.self.inside.numbers.items in
    let taken : c.take_back.new.flags.items ≡ flags_without numbers flags = c.take_back.ensures ∙ ap (λ (z : List ℕ). flags_without z flags) c.deref.ensures.value in
    let none = none_resized flags c.take_back.new.flags.items c.resize.new.self.items numbers _ _ c.self.invariant taken c.in_ok-resize.ensures.items in
    let P : List ℕ → Type 0 = λ z. AreListed c.resize.new.self.items z in
    subst P (sym c.clear.ensures.items) (none_listed c.resize.new.self.items none)

pub returns-clause-none : goal.returns-clause-none
returns-clause-none c =
    let flags = c.self.inside.flags.items in
    let numbers = c.self.inside.numbers.items in
    let taken : c.take_back.new.flags.items ≡ flags_without numbers flags = c.take_back.ensures ∙ ap (λ (z : List ℕ). flags_without z flags) c.deref.ensures.value in
    none_resized flags c.take_back.new.flags.items c.resize.new.self.items numbers _ _ c.self.invariant taken c.in_ok-resize.ensures.items
