-- What a role meets along talks with one arm.
use Rattle.std.proofs.Common.{◌≡◌, inl, inr, ℕ, ◌<◌, Bool, false, List, [], ◌∷◌, length, get_or, refl, sym, ◌∙◌, subst, arith}
use Rattle.std.proofs.lemmas.List.{get_or_default}
use Rattle.rs_model.specs.Data.{Protocol_data}
use Rattle.rs_model.specs.declared.graph.Role.{Role}
use Rattle.rs_project.specs.Data.{Front_data}
use Rattle.rs_project.specs.Filing.{lone_front}
use Rattle.rs_project.specs.Graph.{PathStep, IsPath, Involves, AllPassBy, MeetsFirst, MeetsTheEnd}
use Rattle.rs_graph.specs.Lists.{Among}
use Rattle.rs_project.specs.Marks.{MeetsOnly, StandsFor, StartEnds, StartMeets}
use Rattle.rs_project.specs.Refusals.{IsFront}
use Rattle.rs_project.proofs.Lists.{contained, contains}

-- a talk of the role is met itself
pub meets_only : (pr : Protocol_data) (role : Role) (start n : ℕ) → Involves pr role n → StandsFor pr role start n → MeetsOnly pr role start n
meets_only pr role start n i s = record {
  met = (s.meets n).1 (record { steps = []; path = refl; earlier = tt; involved = i });
  only = λ t m. (let k = (s.meets t).0 m in here t k.steps k.path k.earlier);
  never = λ e. (let k = s.ends.0 e in none k.last k.steps k.path k.earlier (λ talk reached j. k.idle talk reached j));
}
  where
    here : (t : ℕ) (ss : List PathStep) → IsPath pr n ss t → AllPassBy pr role ss → n ≡ t
    here t [] path earlier = path
    here t (a ∷ ss) path earlier = let P : ℕ → Type 0 = λ z. Involves pr role z in absurd (earlier.0.uninvolved (subst P (sym path.1) i))

    none : (last : ℕ) (ss : List PathStep) → IsPath pr n ss last → AllPassBy pr role ss → ((talk : ℕ) → ((steps : List PathStep) × IsPath pr last steps talk) → Involves pr role talk → ⊥) → ⊥
    none last [] path earlier idle = idle n ([], sym path) i
    none last (a ∷ ss) path earlier idle = let P : ℕ → Type 0 = λ z. Involves pr role z in earlier.0.uninvolved (subst P (sym path.1) i)

pub lone_front_shown : (pr : Protocol_data) (role : Role) (starts : List ℕ) (start talk : ℕ) (f : Front_data) → starts ≡ start ∷ [] → f ≡ lone_front talk → MeetsOnly pr role start talk
    → IsFront f (StartMeets pr role starts) (StartEnds pr role starts)
lone_front_shown pr role starts start talk f es ef only = rw (es, ef) record {
  rising = λ i j d lt h. absurd (omega (arith, lt, h));
  talks = λ t. (
    (λ has. record { start = start; among = inl refl; meets = met t (contained (talk ∷ []) t has) }),
    (λ m. contains (talk ∷ []) t (inl (lone t m))),
  );
  ends = (
    (λ e. absurd (cc (e))),
    (λ e. absurd (ended e)),
  );
}
  where
    met : (t : ℕ) → Among (talk ∷ []) t → MeetsFirst pr role start t
    met t (inl q) = let P : ℕ → Type 0 = λ z. MeetsFirst pr role start z in subst P q only.met
    met t (inr bad) = absurd bad

    lone : (t : ℕ) → StartMeets pr role (start ∷ []) t → talk ≡ t
    lone t m = elim m.among [
      | inl q ↦ (let P : ℕ → Type 0 = λ z. MeetsFirst pr role z t in only.only t (subst P (sym q) m.meets))
      | inr bad ↦ absurd bad
    ]

    ended : StartEnds pr role (start ∷ []) → ⊥
    ended e = elim e.among [
      | inl q ↦ (let P : ℕ → Type 0 = λ z. MeetsTheEnd pr role z in only.never (subst P (sym q) e.ends))
      | inr bad ↦ bad
    ]

-- ---- what is read of the survey

pub flag_at : (items flags : List Bool) (n : ℕ) (r b : Bool) → items ≡ flags → n < length flags → r ≡ get_or items n r → r ≡ b → get_or flags n false ≡ b
flag_at items flags n r b e h is rb = let P : List Bool → Type 0 = λ z. r ≡ get_or z n r in sym (subst P e is ∙ get_or_default flags n r false h) ∙ rb
