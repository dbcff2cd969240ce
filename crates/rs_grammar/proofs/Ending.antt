-- From each place some tokens lead on to the end.
use Rattle.std.proofs.Common.{◌≡◌, ℕ, zero, suc, List, [], ◌∷◌, ◌++◌, length, Bool, true, ◌&&◌, refl, sym, ap, ◌∙◌, subst, inl, inr, append_assoc, append-nil}
use Rattle.std.proofs.lemmas.Bool.{and_parts, and_from, or_cases}
use Rattle.std.specs.List.{list_all, list_any}
use Rattle.rs_grammar.specs.declared.symbols.Symbol.{Symbol}
use Rattle.rs_grammar.specs.declared.symbols.Symbol.TheVariants.{Terminal, Part}
use Rattle.rs_grammar.specs.declared.classes.Class.{Class}
use Rattle.rs_text.specs.Signs.{Sign}
use Rattle.rs_grammar.specs.Classes.{accepts, samples}
use Rattle.rs_grammar.specs.Places.{Takes, can_end}
use Rattle.rs_grammar.specs.Grammar.{Grammar, Way, part_at, IsOneOf}
use Rattle.rs_grammar.specs.Tests.{is_met, ends, all_end}
use Rattle.rs_grammar.specs.Trees.{Event}
use Rattle.rs_grammar.proofs.Deciding.{every_part, every_way}
use Rattle.rs_grammar.specs.Readings.{event}
use Rattle.rs_grammar.proofs.Spelling.{Derives, skip}

-- ---- one behind the other

takes_append : (g : Grammar) (e : Event) (xs d ys : List Symbol) → Takes g e xs d → Takes g e (xs ++ ys) (d ++ ys)
takes_append g e [] d ys k = absurd k
takes_append g e (Terminal c w a ∷ xs) d ys k = (k.0, k.1, ap (λ z. z ++ ys) k.2)
takes_append g e (Part n ∷ xs) d ys (inl k) = inl (k.0, k.1, k.2, k.3, ap (λ z. z ++ ys) k.4 ∙ append_assoc k.0.rest xs ys)
takes_append g e (Part n ∷ xs) d ys (inr k) = inr (k.0, takes_append g e xs d ys k.1)

behind_end : (g : Grammar) (xs ys : List Symbol) (es : List Event) → can_end g xs ≡ true → Derives g ys es → Derives g (xs ++ ys) es
behind_end g [] ys es h d = d
behind_end g (Terminal c w a ∷ xs) ys es h d = absurd (cc h)
behind_end g (Part n ∷ xs) ys es h d = let b = and_parts _ _ h in skip g n (xs ++ ys) es b.0 (behind_end g xs ys es b.1 d)

derives_append : (g : Grammar) (xs ys : List Symbol) (us vs : List Event) → Derives g xs us → Derives g ys vs → Derives g (xs ++ ys) (us ++ vs)
derives_append g xs ys [] vs d e = behind_end g xs ys vs d e
derives_append g xs ys (u ∷ us) vs d e = (d.0 ++ ys, takes_append g u xs d.0 ys d.1, derives_append g d.0 ys us vs d.2 e)

-- ---- each symbol that passes the test derives something

abbrev pub Ends : Grammar → List Symbol → Type 0
Ends g xs = (es : List Event) × Derives g xs es

some_token : (c : Class) (ts : List Sign) → list_any (λ t. accepts c t) ts ≡ true → (t : Sign) × (accepts c t ≡ true)
some_token c [] h = absurd (cc h)
some_token c (t ∷ ts) h = elim (or_cases (accepts c t) (list_any (λ t. accepts c t) ts) h) [ inl e ↦ (t, e) | inr e ↦ some_token c ts e ]

some_way : (f : Way → Bool) (ws : List Way) → list_any f ws ≡ true → (w : Way) × IsOneOf w ws × (f w ≡ true)
some_way f [] h = absurd (cc h)
some_way f (w ∷ ws) h = elim (or_cases (f w) (list_any f ws) h) [
  | inl e ↦ (w, inl refl, e)
  | inr e ↦ (let r = some_way f ws e in (r.0, inr r.1, r.2))
]

all : (g : Grammar) (height : ℕ) → ((x : Symbol) → ends g height x ≡ true → Ends g (x ∷ [])) → (xs : List Symbol) → list_all (ends g height) xs ≡ true → Ends g xs
all g k each [] h = ([], refl)
all g k each (x ∷ xs) h =
    let b = and_parts (ends g k x) (list_all (ends g k) xs) h in
    let a = each x b.0 in
    let r = all g k each xs b.1 in
    (a.0 ++ r.0, derives_append g (x ∷ []) xs a.0 r.0 a.1 r.1)

each : (g : Grammar) (height : ℕ) (x : Symbol) → ends g height x ≡ true → Ends g (x ∷ [])
each g height (Terminal c w a) h = let t = some_token c samples h in (event a t.0 ∷ [], ([], (t.1, refl, refl), refl))
each g zero (Part n) h = absurd (cc h)
each g (suc k) (Part n) h = elim (or_cases _ _ h) [
  | inl m ↦ ([], and_from _ _ m refl)
  | inr e ↦ (
      let w = some_way (λ w. is_met w.first && list_all (ends g k) w.rest) (part_at g n).ways e in
      let b = and_parts (is_met w.0.first) (list_all (ends g k) w.0.rest) w.2 in
      let t = some_token w.0.first samples b.0 in
      let r = all g k (each g k) w.0.rest b.1 in
      (event w.0.action t.0 ∷ r.0, (w.0.rest ++ [], inl (w.0, w.1, t.1, refl, refl), subst (λ (z : List Symbol). Derives g z r.0) (sym (append-nil w.0.rest)) r.1)))
]

-- ---- places of such symbols

abbrev pub Endable : Grammar → List Symbol → Type 0
Endable g xs = list_all (ends g (length g)) xs ≡ true

pub completed : (g : Grammar) (xs : List Symbol) → Endable g xs → Ends g xs
completed g xs h = all g (length g) (each g (length g)) xs h

both : (p : Symbol → Bool) (xs ys : List Symbol) → list_all p xs ≡ true → list_all p ys ≡ true → list_all p (xs ++ ys) ≡ true
both p [] ys h k = k
both p (x ∷ xs) ys h k = let b = and_parts (p x) (list_all p xs) h in and_from _ _ b.0 (both p xs ys b.1 k)

pub takes_endable : (g : Grammar) → all_end g ≡ true → (i : Event) (xs d : List Symbol) → Endable g xs → Takes g i xs d → Endable g d
takes_endable g s i [] d e k = absurd k
takes_endable g s i (Terminal c w a ∷ xs) d e k = subst (λ (z : List Symbol). Endable g z) (sym k.2) (and_parts _ _ e).1
takes_endable g s i (Part n ∷ xs) d e (inl k) =
    subst (λ (z : List Symbol). Endable g z) (sym k.4)
    (both (ends g (length g)) k.0.rest xs
    (every_way (λ w. list_all (ends g (length g)) w.rest) (part_at g n).ways k.0 k.1 (every_part (λ p. list_all (λ w. list_all (ends g (length g)) w.rest) p.ways) refl g s n))
    (and_parts _ _ e).1)
takes_endable g s i (Part n ∷ xs) d e (inr k) = takes_endable g s i xs d (and_parts _ _ e).1 k.1
