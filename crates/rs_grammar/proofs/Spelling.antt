-- Trees, and the way from place to place that their tokens lead.
use Rattle.std.proofs.Common.{◌≡◌, ℕ, List, [], ◌∷◌, ◌++◌, true, refl, sym, ap, ◌∙◌, subst, inl, inr, append_assoc, append-nil}
use Rattle.std.proofs.lemmas.Bool.{and_parts, and_from}
use Rattle.rs_grammar.specs.declared.symbols.Symbol.{Symbol}
use Rattle.rs_grammar.specs.declared.symbols.Symbol.TheVariants.{Terminal, Part}
use Rattle.rs_text.specs.Signs.{Sign}
use Rattle.rs_grammar.specs.Places.{Takes, can_end}
use Rattle.rs_grammar.specs.Grammar.{Grammar, Way, part_at}
use Rattle.rs_grammar.specs.Trees.{Event, Trees, none, leaf, missing, node, AreOf, first_of, events_of, signs_in, Spells}

-- the tokens lead from the place to where nothing more has to be read
abbrev pub Derives : Grammar → List Symbol → List Event → Type 0
Derives g xs [] = can_end g xs ≡ true
Derives g xs (e ∷ es) = (m : List Symbol) × Takes g e xs m × Derives g m es

pub skip : (g : Grammar) (n : ℕ) (xs : List Symbol) (es : List Event) → (part_at g n).optional ≡ true → Derives g xs es → Derives g (Part n ∷ xs) es
skip g n xs [] m d = and_from _ _ m d
skip g n xs (e ∷ es) m d = (d.0, inr (m, d.1), d.2)

-- trees lead on
pub sound : (g : Grammar) (xs s : List Symbol) (f : Trees) (es : List Event) → AreOf g xs f → Derives g s es → Derives g (xs ++ s) (events_of f ++ es)
sound g [] s none es a d = d
sound g (Terminal c w n ∷ xs) s (leaf e l) es a d = (xs ++ s, (a.0, a.1, refl), sound g xs s l es a.2 d)
sound g (Part n ∷ xs) s (missing l) es a d = skip g n (xs ++ s) (events_of l ++ es) a.0 (sound g xs s l es a.1 d)
sound g (Part n ∷ xs) s (node w t i l) es a d = (
  w.rest ++ (xs ++ s),
  inl (w, a.0, a.1, refl, refl),
  subst (λ (z : List Event). Derives g (w.rest ++ (xs ++ s)) z) (sym (append_assoc (events_of i) (events_of l) es))
      (sound g w.rest (xs ++ s) i (events_of l ++ es) a.2 (sound g xs s l es a.3 d)),
)
sound g _ s _ es a d = absurd a

pub derived : (g : Grammar) (xs : List Symbol) (f : Trees) → AreOf g xs f → Derives g xs (events_of f)
derived g xs f a =
    subst (λ (z : List Symbol). Derives g z (events_of f)) (append-nil xs) (subst (λ (z : List Event). Derives g (xs ++ []) z) (append-nil (events_of f)) (sound g xs [] f [] a refl))

-- ---- and back

abbrev Parted : Grammar → (xs ys : List Symbol) → Trees → Type 0
Parted g xs ys f = (i : Trees) × (l : Trees) × AreOf g xs i × AreOf g ys l × (events_of f ≡ events_of i ++ events_of l)

part : (g : Grammar) (xs ys : List Symbol) (f : Trees) → AreOf g (xs ++ ys) f → Parted g xs ys f
part g [] ys f a = (none, f, tt, a, refl)
part g (Terminal c w n ∷ xs) ys (leaf e l) a = let r = part g xs ys l a.2 in (leaf e r.0, r.1, (a.0, a.1, r.2), r.3, ap (λ z. e ∷ z) r.4)
part g (Part n ∷ xs) ys (missing l) a = let r = part g xs ys l a.1 in (missing r.0, r.1, (a.0, r.2), r.3, r.4)
part g (Part n ∷ xs) ys (node w t i l) a =
    let r = part g xs ys l a.3 in
    (node w t i r.0, r.1, (a.0, a.1, a.2, r.2), r.3, ap (λ z. first_of w t ∷ z) (ap (λ z. events_of i ++ z) r.4 ∙ sym (append_assoc (events_of i) (events_of r.0) (events_of r.1))))
part g _ ys _ a = absurd a

-- trees with these tokens and acts
abbrev pub Treed : Grammar → List Symbol → List Event → Type 0
Treed g xs es = (f : Trees) × AreOf g xs f × (events_of f ≡ es)

event_same : (e : Event) (w : Way) → e.action ≡ w.action → first_of w e.sign ≡ e
event_same e w h = ap (λ z. (let r : Event = record { action = z; sign = e.sign } in r)) (sym h)

grow : (g : Grammar) (e : Event) (xs m : List Symbol) (es : List Event) → Takes g e xs m → Treed g m es → Treed g xs (e ∷ es)
grow g e [] m es k s = absurd k
grow g e (Terminal c w a ∷ xs) m es k s = (leaf e s.0, (k.0, k.1, subst (λ (z : List Symbol). AreOf g z s.0) k.2 s.1), ap (λ z. e ∷ z) s.2)
grow g e (Part n ∷ xs) m es (inl k) s =
    let r = part g k.0.rest xs s.0 (subst (λ (z : List Symbol). AreOf g z s.0) k.4 s.1) in
    (node k.0 e.sign r.0 r.1, (k.1, k.2, r.2, r.3), ap (λ z. z ∷ (events_of r.0 ++ events_of r.1)) (event_same e k.0 k.3) ∙ ap (λ z. e ∷ z) (sym r.4 ∙ s.2))
grow g e (Part n ∷ xs) m es (inr k) s = let r = grow g e xs m es k.1 s in (missing r.0, (k.0, r.1), r.2)

nothing : (g : Grammar) (xs : List Symbol) → can_end g xs ≡ true → Treed g xs []
nothing g [] h = (none, tt, refl)
nothing g (Terminal c w a ∷ xs) h = absurd (cc h)
nothing g (Part n ∷ xs) h = let b = and_parts _ _ h in let r = nothing g xs b.1 in (missing r.0, (b.0, r.1), r.2)

pub treed : (g : Grammar) (xs : List Symbol) (es : List Event) → Derives g xs es → Treed g xs es
treed g xs [] d = nothing g xs d
treed g xs (e ∷ es) d = grow g e xs d.0 es d.1 (treed g d.0 es d.2)

pub spelt : (g : Grammar) (xs : List Symbol) (es : List Event) (ts : List Sign) → Derives g xs es → ts ≡ signs_in es → Spells g xs ts
spelt g xs es ts d h = let r = treed g xs es d in (r.0, (r.1, h ∙ ap signs_in (sym r.2)))

pub cons_same : (t u : Sign) (ts us : List Sign) → t ∷ ts ≡ u ∷ us → (t ≡ u) × (ts ≡ us)
cons_same t u ts us h = (cc, cc)
