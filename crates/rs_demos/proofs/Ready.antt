-- The documents of the demos are as those that are read.
use Rattle.std.proofs.Common.{◌≡◌, ◌⊎◌, inl, inr, ℕ, ◌+◌, Bool, true, false, ◌&&◌, ◌||◌, ◌==◌, nat_le, List, length, Option, Some, None, refl, sym, ◌∙◌, subst, arith}
use Rattle.std.specs.List.{list_all, range_with_len}
use Rattle.std.proofs.lemmas.Bool.{and_parts, false≢true, leb-true}
use Rattle.std.proofs.lemmas.Bool.Decides.{eqb_tells}
use Rattle.rs_documents.proofs.Parts.{none_there}
use Rattle.rs_documents.specs.Ready.{AreShort, DocumentIsReady}
use Rattle.rs_model.specs.Data.{Machine_data}
use Rattle.rs_model.specs.declared.limits.TheConstants.{MOST_ROLES, MOST_STATES, MOST_TALKS}
use Rattle.rs_model.specs.declared.demos.Demo.{Demo}
use Rattle.rs_model.specs.declared.demos.Demo.TheVariants as demo
use Rattle.rs_demos.specs.Sessions.{demo_names, demo_protocol, has_session, written_machines}
use Rattle.rs_demos.specs.Texts.{document_of}
use Rattle.rs_demos.proofs.Ranges.{within}
use Rattle.rs_demos.proofs.Printable.{at_all, printable}
use Rattle.rs_demos.proofs.SpeltDocuments.{can_be_read}

short : Option Machine_data → Bool
short None = true
short (Some m) = nat_le (length m.states) MOST_STATES

abbrev size_test : Demo → ℕ → Bool
size_test kind n =
    (nat_le 2 (length (demo_names kind n).roles) && nat_le (length (demo_names kind n).roles) MOST_ROLES)
    && (nat_le (length (demo_protocol kind n).nodes) (MOST_TALKS + 1) && list_all short (written_machines kind n))

ring_sizes : list_all (size_test demo.Ring) (range_with_len 2 15) ≡ true
unfolding short
ring_sizes = refl

double_sizes : (n : ℕ) → size_test demo.Double n ≡ true
unfolding short
double_sizes n = refl

stream_sizes : (n : ℕ) → size_test demo.Stream n ≡ true
unfolding short
stream_sizes n = refl

butterfly_sizes : ((size_test demo.Butterfly 2 && size_test demo.Butterfly 4) && (size_test demo.Butterfly 8 && size_test demo.Butterfly 16)) ≡ true
unfolding short
butterfly_sizes = refl

eq_by : (x y : ℕ) → (x == y) ≡ true → x ≡ y
eq_by x y h = elim (eqb_tells x y) [ inl t ↦ t.1 | inr t ↦ absurd (false≢true (sym t.0 ∙ h)) ]

either : (a b : Bool) → (a || b) ≡ true → (a ≡ true) ⊎ (b ≡ true)
either true b h = inl refl
either false b h = inr h

sizes : (kind : Demo) (n : ℕ) → has_session kind n ≡ true → size_test kind n ≡ true
sizes demo.Double n s = double_sizes n
sizes demo.Stream n s = stream_sizes n
sizes demo.Ring n s = let c = and_parts (nat_le 2 n) (nat_le n 16) s in let high = leb-true n 16 c.1 in within (size_test demo.Ring) 2 15 n ring_sizes (leb-true 2 n c.0) (omega (arith, high))
sizes demo.Butterfly n s =
    let P : ℕ → Type 0 = λ z. size_test demo.Butterfly z ≡ true in
    let all = and_parts (size_test demo.Butterfly 2 && size_test demo.Butterfly 4) (size_test demo.Butterfly 8 && size_test demo.Butterfly 16) butterfly_sizes in
    let small = and_parts (size_test demo.Butterfly 2) (size_test demo.Butterfly 4) all.0 in
    let great = and_parts (size_test demo.Butterfly 8) (size_test demo.Butterfly 16) all.1 in
    elim (either ((n == 2) || (n == 4)) ((n == 8) || (n == 16)) s) [
      | inl k ↦ elim (either (n == 2) (n == 4) k) [ inl f ↦ subst P (sym (eq_by n 2 f)) small.0 | inr f ↦ subst P (sym (eq_by n 4 f)) small.1 ]
      | inr k ↦ elim (either (n == 8) (n == 16) k) [ inl f ↦ subst P (sym (eq_by n 8 f)) great.0 | inr f ↦ subst P (sym (eq_by n 16 f)) great.1 ]
    ]

are_short : (machines : List (Option Machine_data)) → list_all short machines ≡ true → AreShort machines
unfolding short
are_short machines h k m e = leb-true (length m.states) MOST_STATES (at_all short machines k (Some m) h e)

-- there are as many names of roles as roles
pub role_names : (kind : Demo) (n : ℕ) → has_session kind n ≡ true → length (demo_names kind n).roles ≡ (demo_protocol kind n).roles
role_names kind n s = (printable kind n s).enough.roles

pub ready : (kind : Demo) (n : ℕ) → has_session kind n ≡ true → DocumentIsReady (document_of kind n)
ready kind n s =
    let again = can_be_read kind n s in
    let t = and_parts (nat_le 2 (length (demo_names kind n).roles) && nat_le (length (demo_names kind n).roles) MOST_ROLES)
    (nat_le (length (demo_protocol kind n).nodes) (MOST_TALKS + 1) && list_all short (written_machines kind n)) (sizes kind n s) in
    let roles = and_parts (nat_le 2 (length (demo_names kind n).roles)) (nat_le (length (demo_names kind n).roles) MOST_ROLES) t.0 in
    let parts = and_parts (nat_le (length (demo_protocol kind n).nodes) (MOST_TALKS + 1)) (list_all short (written_machines kind n)) t.1 in
    record {
      sound = again.shown.sound;
      two = leb-true 2 (length (demo_names kind n).roles) roles.0;
      roles = leb-true (length (demo_names kind n).roles) MOST_ROLES roles.1;
      a_name_each = role_names kind n s;
      labels = again.bounded;
      one_each = again.machines.one_each;
      short = are_short (written_machines kind n) parts.1;
      in_place = again.machines.in_place;
      nodes = leb-true (length (demo_protocol kind n).nodes) (MOST_TALKS + 1) parts.0;
      derivations = record {
        one_each = again.derivations.one_each;
        in_place = again.derivations.in_place;
        all = λ k d e. absurd (none_there (demo_names kind n).roles k d e);
      };
    }
