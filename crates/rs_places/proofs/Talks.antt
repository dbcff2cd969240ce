-- A talk stands in the text where its place is.
use Rattle.std.proofs.Common.{◌≡◌, ℕ, zero, suc, List, [], ◌∷◌, ◌++◌, map, filter, Bool, true, false, Some, slice_get, refl, sym, ap, ◌∙◌, append_assoc, codes}
use Rattle.std.specs.List.{flat_map}
use Rattle.rs_model.specs.declared.graph.Arm.{Arm}
use Rattle.rs_model.specs.declared.graph.Node.{Node}
use Rattle.rs_model.specs.declared.graph.Node.TheVariants as node
use Rattle.rs_model.specs.declared.graph.Role.{Role}
use Rattle.rs_text.specs.Lexemes.{Lexeme, signs_of}
use Rattle.rs_text.specs.Lexing.{Lexed}
use Rattle.rs_text.specs.Names.{is_among, place_of, number_or}
use Rattle.rs_text.specs.Signs.{Sign, plain, arrow}
use Rattle.rs_text.proofs.Basics.{some_is}
use Rattle.rs_text.proofs.Naming.{placed_by, place_stands}
use Rattle.rs_bodies.specs.declared.dialects.Dialect.TheVariants.{Talks}
use Rattle.rs_bodies.specs.Dialects.{BehindRole, sends_to}
use Rattle.rs_bodies.specs.Graph.{Numbering, role_by_name}
use Rattle.rs_bodies.specs.Openings.{Opening, of_roles, opening_signs, further_signs}
use Rattle.rs_global.specs.Graph.{talk_of_turn, finish_of}
use Rattle.rs_places.specs.Starts.{Trio, trios}
use Rattle.rs_places.proofs.Known.{AreRoles}
use Rattle.rs_places.proofs.Trios.{seen_of, has_arrow, arrows_found, behind_next, StandAmong, stands_among}
use Rattle.rs_places.proofs.Turns.{found, head_seen}

-- ---- the arrows of a whole text

abbrev pub all_found : List Sign → List (List Sign)
all_found [] = []
all_found (x ∷ xs) = found Talks x xs

pub whole_found : (bytes : List ℕ) (at : ℕ) (ls : List Lexeme) → Lexed bytes at ls → map (seen_of Talks) (filter has_arrow (trios ls)) ≡ all_found (signs_of ls)
whole_found bytes at [] h = refl
whole_found bytes at (a ∷ []) h = refl
whole_found bytes at (a ∷ b ∷ ls) h = arrows_found bytes ls a b (behind_next bytes a b ls (record { none = h.1; some = h.2 }))

pub whole_among : (ls : List Lexeme) (k : ℕ) (t : Trio) → slice_get (filter has_arrow (trios ls)) k ≡ Some t → StandAmong ls t
whole_among [] k t h = absurd (cc h)
whole_among (a ∷ []) k t h = absurd (cc h)
whole_among (a ∷ b ∷ ls) k t h = stands_among has_arrow ls a b k t h

-- ---- the opening has no arrow

further_found : (xs : List (List ℕ)) (p : Sign) (zs : List Sign) → found Talks p (flat_map further_signs xs ++ plain (codes "protocol") ∷ zs) ≡ found Talks (plain (codes "protocol")) zs
further_found [] p zs = refl
further_found (x ∷ xs) p zs = further_found xs (plain x) zs

pub opening_found : (o : Opening Talks) (body ys : List Sign) → all_found ((opening_signs Talks o ++ body) ++ ys) ≡ found Talks (plain (codes "protocol")) (body ++ ys)
opening_found (of_roles f s xs) body ys =
    let line = flat_map further_signs xs in
    let last = plain (codes "protocol") ∷ [] in
    ap (λ z. found Talks (plain s) z) (append_assoc (line ++ last) body ys ∙ append_assoc line last (body ++ ys)) ∙ further_found xs (plain s) (body ++ ys)

-- ---- the words of a talk

not_end : (e : Bool) (n : ℕ) (s r : Role) (arms : List Arm) → slice_get (finish_of e) n ≡ Some (node.Talk s r arms) → ⊥
not_end true zero s r arms h = cc h
not_end true (suc n) s r arms h = cc h
not_end false n s r arms h = cc h

pub before_end : (nodes : List Node) (e : Bool) (n : ℕ) (s r : Role) (arms : List Arm) → slice_get (nodes ++ finish_of e) n ≡ Some (node.Talk s r arms) → slice_get nodes n ≡ Some (node.Talk s r arms)
before_end [] e n s r arms h = absurd (not_end e n s r arms h)
before_end (x ∷ nodes) e zero s r arms h = h
before_end (x ∷ nodes) e (suc n) s r arms h = before_end nodes e n s r arms h

-- what stands in a mapped list at a place
pub mapped_there : {A B : Type 0} (f : A → B) (xs : List A) (n : ℕ) (y : B) → slice_get (map f xs) n ≡ Some y → (x : A) × (slice_get xs n ≡ Some x) × (f x ≡ y)
mapped_there f [] n y h = absurd (cc h)
mapped_there f (x ∷ xs) zero y h = (x, refl, some_is (f x) y h)
mapped_there f (x ∷ xs) (suc n) y h = mapped_there f xs n y h

-- the name of a role
pub name_is : (roles : List (List ℕ)) (name : List ℕ) → is_among name roles ≡ true → slice_get roles (number_or (place_of name roles)) ≡ Some name
name_is roles name h =
    let k = placed_by (place_of name roles) name roles refl h in
    ap (λ z. slice_get roles (number_or z)) k.1 ∙ (place_stands roles name k.0 k.1).present

-- a talk's words: the sender and the receiver by their names
pub record TalkWords (roles : List (List ℕ)) (s r : Role) (first receiver : List ℕ) : Type 0 where
  pub sender_is : slice_get roles s.0 ≡ Some first
  pub receiver_is : slice_get roles r.0 ≡ Some receiver

pub talk_words : (n : Numbering) (p : List ℕ) (turn : BehindRole Talks) (mine arms : List Arm) (s r : Role) → talk_of_turn n p turn mine ≡ node.Talk s r arms → AreRoles Talks n.names.roles p turn
    → (receiver : List ℕ) × (head_seen Talks p turn mine ≡ plain p ∷ arrow ∷ plain receiver ∷ []) × TalkWords n.names.roles s r p receiver
talk_words n p (sends_to q) mine arms s r e known =
    let sender : role_by_name n p ≡ s = cc e in
    let receiver : role_by_name n q ≡ r = cc e in (
      q,
      refl,
      record {
        sender_is = ap (λ (z : Role). slice_get n.names.roles z.0) (sym sender) ∙ name_is n.names.roles p known.0;
        receiver_is = ap (λ (z : Role). slice_get n.names.roles z.0) (sym receiver) ∙ name_is n.names.roles q known.1;
      },
    )
