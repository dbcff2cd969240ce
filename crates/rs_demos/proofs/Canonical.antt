-- The texts of the demos are the canonical ones.
use Rattle.std.proofs.Common.{◌≡◌, ℕ, ◌+◌, ◌<◌, false, List, [], ◌∷◌, ◌++◌, codes, Some, None, slice_get, refl, sym, ap, ◌∙◌, arith}
use Rattle.std.proofs.lemmas.Bool.{false≢true}
use Rattle.std.proofs.lemmas.Fmt.{decimal_digit}
use Rattle.std.specs.Fmt.{decimal}
use Rattle.rs_model.specs.Data.{Names_data, Protocol_data, Machine_data}
use Rattle.rs_model.specs.declared.graph.Arm.{Arm}
use Rattle.rs_model.specs.declared.values.Sort.TheVariants as sort
use Rattle.rs_model.specs.declared.demos.Demo.TheVariants as demo
use Rattle.rs_global.specs.Canonical as protocol
use Rattle.rs_global.specs.Texts as protocol_texts
use Rattle.rs_global.specs.Trees as protocol_trees
use Rattle.rs_bodies.specs.Dialects.{sends_to}
use Rattle.rs_bodies.specs.Canonical.{IsPointOf}
use Rattle.rs_bodies.specs.Openings.{of_roles, of_role}
use Rattle.rs_bodies.specs.Places.{choice, places_of_protocol, places_of_machine, IsGoneBackTo}
use Rattle.rs_bodies.specs.Trees as bodies
use Rattle.rs_bodies.specs.declared.dialects.Dialect.TheVariants.{Talks, Acts}
use Rattle.rs_bodies.specs.declared.dialects.Head.TheVariants as head
use Rattle.rs_bodies.specs.declared.places.Place.{Place}
use Rattle.rs_bodies.proofs.BackFlags.{goes_back, back_is, is_back}
use Rattle.rs_bodies.specs.Dialects.{with_mark}
use Rattle.rs_machines.specs.Canonical as machine'
use Rattle.rs_machines.specs.Texts as machine_texts
use Rattle.rs_machines.specs.Trees as machine_trees
use Rattle.rs_bodies.specs.declared.dialects.Mark.{Mark}
use Rattle.rs_bodies.specs.declared.dialects.Mark.TheVariants as mark
use Rattle.rs_demos.specs.Sessions.{role, arm, double_protocol, double_kernel, stream_protocol, stream_source, demo_names}
use Rattle.rs_documents.proofs.Lines.{without}
use Rattle.rs_documents.specs.Canonical.{IsLine}
use Rattle.rs_demos.proofs.Printable.{demos_are_shaped}
use Rattle.rs_demos.specs.Texts.{IsDemoText}
use Rattle.rs_demos.specs.declared.documents.TheConstants.{DOUBLE, STREAM}

-- no arm goes back

free : (places : List Place) (n : ℕ) → goes_back places n ≡ false → IsGoneBackTo places n → ⊥
free places n e g = false≢true (sym e ∙ is_back places n g)

-- double buffering

double_tree : protocol_trees.ProtocolTree
double_tree = record {
  opening = of_roles (codes "K") (codes "S") (codes "T" ∷ []);
  body = bodies.binds (codes "X0") (bodies.acts (codes "K") (sends_to (codes "S")) (codes "ready") None
      (bodies.acts (codes "T") (sends_to (codes "K")) (codes "ready") None
      (bodies.offers (codes "S") (sends_to (codes "K"))
      (bodies.more (codes "copy") (Some sort.Octets)
      (bodies.acts (codes "K") (sends_to (codes "T")) (codes "copy") (Some sort.Octets) (bodies.again (codes "X0")))
      (bodies.one (codes "stop") None
      (bodies.acts (codes "K") (sends_to (codes "S")) (codes "ready") None
      (bodies.acts (codes "K") (sends_to (codes "T")) (codes "stop") None bodies.ends)))))));
}

double_kernel_tree : machine_trees.MachineTree
double_kernel_tree = record {
  opening = of_role (codes "K");
  body = bodies.acts (codes "S") (with_mark mark.Puts) (codes "ready") None (bodies.binds (codes "X1")
      (bodies.acts (codes "S") (with_mark mark.Puts) (codes "ready") None
      (bodies.acts (codes "T") (with_mark mark.Takes) (codes "ready") None
      (bodies.offers (codes "S") (with_mark mark.Takes)
      (bodies.more (codes "copy") (Some sort.Octets)
      (bodies.acts (codes "T") (with_mark mark.Puts) (codes "copy") (Some sort.Octets) (bodies.again (codes "X1")))
      (bodies.one (codes "stop") None
      (bodies.acts (codes "T") (with_mark mark.Puts) (codes "stop") None bodies.ends)))))));
}

-- a talk of a protocol, with names
talk : (names : Names_data) (p : Protocol_data) (n : ℕ) (s r : ℕ) (sn rn : List ℕ) (arms : List Arm) → slice_get (places_of_protocol p) n ≡ Some (choice (head.Talk (role s) (role r)) arms)
    → slice_get names.roles s ≡ Some sn → slice_get names.roles r ≡ Some rn → IsPointOf Talks names (places_of_protocol p) n sn (sends_to rn) arms
talk names p n s r sn rn arms t a b = record { head = head.Talk (role s) (role r); stands = t; named = (a, b) }

-- an act of a machine, with names
act : (names : Names_data) (m : Machine_data) (n p : ℕ) (pn : List ℕ) (k : Mark) (arms : List Arm) → slice_get (places_of_machine m) n ≡ Some (choice (head.Act (role p) k) arms)
    → slice_get names.roles p ≡ Some pn → IsPointOf Acts names (places_of_machine m) n pn (with_mark k) arms
act names m n p pn k arms t a = record { head = head.Act (role p) k; stands = t; named = (a, refl) }

-- a recursion name of one digit
x_node : (n : ℕ) → n < 10 → codes "X" ++ ((48 + n) ∷ []) ≡ codes "X" ++ decimal n
x_node n h = ap (λ (z : List ℕ). codes "X" ++ z) (sym (decimal_digit n h))

double_front : protocol.IsCanonicalProtocolTree (demo_names demo.Double 0) double_protocol double_tree
unfolding double_tree
double_front = record {
  opening = refl;
  body = (
    omega arith,
    x_node 0 (omega arith),
    back_is (places_of_protocol double_protocol) 0 refl,
    (
      arm 0 sort.Unit 1,
      talk (demo_names demo.Double 0) double_protocol 0 0 1 (codes "K") (codes "S") (arm 0 sort.Unit 1 ∷ []) refl refl refl,
      (refl, refl),
      (
        omega arith,
        free (places_of_protocol double_protocol) 1 refl,
        (
          arm 0 sort.Unit 2,
          talk (demo_names demo.Double 0) double_protocol 1 2 0 (codes "T") (codes "K") (arm 0 sort.Unit 2 ∷ []) refl refl refl,
          (refl, refl),
          (
            omega arith,
            free (places_of_protocol double_protocol) 2 refl,
            (
              arm 1 sort.Octets 3,
              arm 2 sort.Unit 4,
              [],
              talk (demo_names demo.Double 0) double_protocol 2 1 0 (codes "S") (codes "K") (arm 1 sort.Octets 3 ∷ arm 2 sort.Unit 4 ∷ []) refl refl refl,
              (
                (refl, refl),
                (
                  omega arith,
                  free (places_of_protocol double_protocol) 3 refl,
                  (
                    arm 1 sort.Octets 0,
                    talk (demo_names demo.Double 0) double_protocol 3 0 2 (codes "K") (codes "T") (arm 1 sort.Octets 0 ∷ []) refl refl refl,
                    (refl, refl),
                    (omega arith, x_node 0 (omega arith)),
                  ),
                ),
                (
                  (refl, refl),
                  (
                    omega arith,
                    free (places_of_protocol double_protocol) 4 refl,
                    (
                      arm 0 sort.Unit 5,
                      talk (demo_names demo.Double 0) double_protocol 4 0 1 (codes "K") (codes "S") (arm 0 sort.Unit 5 ∷ []) refl refl refl,
                      (refl, refl),
                      (
                        omega arith,
                        free (places_of_protocol double_protocol) 5 refl,
                        (arm 2 sort.Unit 6, talk (demo_names demo.Double 0) double_protocol 5 0 2 (codes "K") (codes "T") (arm 2 sort.Unit 6 ∷ []) refl refl refl, (refl, refl), refl),
                      ),
                    ),
                  ),
                ),
              ),
            ),
          ),
        ),
      ),
    ),
  );
}

double_back : machine'.IsCanonicalMachineTree (demo_names demo.Double 0) double_kernel double_kernel_tree
unfolding double_kernel_tree
double_back = record {
  opening = refl;
  body = (
    omega arith,
    free (places_of_machine double_kernel) 0 refl,
    (
      arm 0 sort.Unit 1,
      act (demo_names demo.Double 0) double_kernel 0 1 (codes "S") mark.Puts (arm 0 sort.Unit 1 ∷ []) refl refl,
      (refl, refl),
      (
        omega arith,
        x_node 1 (omega arith),
        back_is (places_of_machine double_kernel) 1 refl,
        (
          arm 0 sort.Unit 2,
          act (demo_names demo.Double 0) double_kernel 1 1 (codes "S") mark.Puts (arm 0 sort.Unit 2 ∷ []) refl refl,
          (refl, refl),
          (
            omega arith,
            free (places_of_machine double_kernel) 2 refl,
            (
              arm 0 sort.Unit 3,
              act (demo_names demo.Double 0) double_kernel 2 2 (codes "T") mark.Takes (arm 0 sort.Unit 3 ∷ []) refl refl,
              (refl, refl),
              (
                omega arith,
                free (places_of_machine double_kernel) 3 refl,
                (
                  arm 1 sort.Octets 4,
                  arm 2 sort.Unit 5,
                  [],
                  act (demo_names demo.Double 0) double_kernel 3 1 (codes "S") mark.Takes (arm 1 sort.Octets 4 ∷ arm 2 sort.Unit 5 ∷ []) refl refl,
                  (
                    (refl, refl),
                    (
                      omega arith,
                      free (places_of_machine double_kernel) 4 refl,
                      (
                        arm 1 sort.Octets 1,
                        act (demo_names demo.Double 0) double_kernel 4 2 (codes "T") mark.Puts (arm 1 sort.Octets 1 ∷ []) refl refl,
                        (refl, refl),
                        (omega arith, x_node 1 (omega arith)),
                      ),
                    ),
                    (
                      (refl, refl),
                      (
                        omega arith,
                        free (places_of_machine double_kernel) 5 refl,
                        (arm 2 sort.Unit 6, act (demo_names demo.Double 0) double_kernel 5 2 (codes "T") mark.Puts (arm 2 sort.Unit 6 ∷ []) refl refl, (refl, refl), refl),
                      ),
                    ),
                  ),
                ),
              ),
            ),
          ),
        ),
      ),
    ),
  );
}

pub double_is : (n : ℕ) (text : List ℕ) → text ≡ DOUBLE.now → IsDemoText demo.Double n text
unfolding double_tree double_kernel_tree
double_is n text e = record {
  front = protocol_texts.protocol_text double_tree;
  back = machine_texts.machine_text double_kernel_tree;
  protocol = record { tree = double_tree; canonical = double_front; whole = refl };
  machines = (
    machine_texts.machine_text double_kernel_tree,
    [],
    IsLine (machine_texts.machine_text double_kernel_tree) (demos_are_shaped demo.Double n refl).0 (record { tree = double_kernel_tree; canonical = double_back; whole = refl }),
    refl,
    refl,
  );
  whole = e ∙ without (demo_names demo.Double n) (demo_names demo.Double n).roles (protocol_texts.protocol_text double_tree) (machine_texts.machine_text double_kernel_tree);
}

-- the stream

stream_tree : protocol_trees.ProtocolTree
stream_tree = record {
  opening = of_roles (codes "S") (codes "T") [];
  body = bodies.binds (codes "X0") (bodies.acts (codes "T") (sends_to (codes "S")) (codes "ready") None
      (bodies.offers (codes "S") (sends_to (codes "T"))
      (bodies.more (codes "value") (Some sort.Octets) (bodies.again (codes "X0"))
      (bodies.one (codes "stop") None bodies.ends))));
}

stream_source_tree : machine_trees.MachineTree
stream_source_tree = record {
  opening = of_role (codes "S");
  body = bodies.acts (codes "T") (with_mark mark.Puts) (codes "value") (Some sort.Octets) (bodies.binds (codes "X1")
      (bodies.acts (codes "T") (with_mark mark.Takes) (codes "ready") None
      (bodies.offers (codes "T") (with_mark mark.Puts)
      (bodies.more (codes "value") (Some sort.Octets) (bodies.again (codes "X1"))
      (bodies.one (codes "stop") None (bodies.acts (codes "T") (with_mark mark.Takes) (codes "ready") None bodies.ends))))));
}

stream_front : protocol.IsCanonicalProtocolTree (demo_names demo.Stream 0) stream_protocol stream_tree
unfolding stream_tree
stream_front = record {
  opening = refl;
  body = (
    omega arith,
    x_node 0 (omega arith),
    back_is (places_of_protocol stream_protocol) 0 refl,
    (
      arm 0 sort.Unit 1,
      talk (demo_names demo.Stream 0) stream_protocol 0 1 0 (codes "T") (codes "S") (arm 0 sort.Unit 1 ∷ []) refl refl refl,
      (refl, refl),
      (
        omega arith,
        free (places_of_protocol stream_protocol) 1 refl,
        (
          arm 1 sort.Octets 0,
          arm 2 sort.Unit 2,
          [],
          talk (demo_names demo.Stream 0) stream_protocol 1 0 1 (codes "S") (codes "T") (arm 1 sort.Octets 0 ∷ arm 2 sort.Unit 2 ∷ []) refl refl refl,
          ((refl, refl), (omega arith, x_node 0 (omega arith)), ((refl, refl), refl)),
        ),
      ),
    ),
  );
}

stream_back : machine'.IsCanonicalMachineTree (demo_names demo.Stream 0) stream_source stream_source_tree
unfolding stream_source_tree
stream_back = record {
  opening = refl;
  body = (
    omega arith,
    free (places_of_machine stream_source) 0 refl,
    (
      arm 1 sort.Octets 1,
      act (demo_names demo.Stream 0) stream_source 0 1 (codes "T") mark.Puts (arm 1 sort.Octets 1 ∷ []) refl refl,
      (refl, refl),
      (
        omega arith,
        x_node 1 (omega arith),
        back_is (places_of_machine stream_source) 1 refl,
        (
          arm 0 sort.Unit 2,
          act (demo_names demo.Stream 0) stream_source 1 1 (codes "T") mark.Takes (arm 0 sort.Unit 2 ∷ []) refl refl,
          (refl, refl),
          (
            omega arith,
            free (places_of_machine stream_source) 2 refl,
            (
              arm 1 sort.Octets 1,
              arm 2 sort.Unit 3,
              [],
              act (demo_names demo.Stream 0) stream_source 2 1 (codes "T") mark.Puts (arm 1 sort.Octets 1 ∷ arm 2 sort.Unit 3 ∷ []) refl refl,
              (
                (refl, refl),
                (omega arith, x_node 1 (omega arith)),
                (
                  (refl, refl),
                  (
                    omega arith,
                    free (places_of_machine stream_source) 3 refl,
                    (arm 0 sort.Unit 4, act (demo_names demo.Stream 0) stream_source 3 1 (codes "T") mark.Takes (arm 0 sort.Unit 4 ∷ []) refl refl, (refl, refl), refl),
                  ),
                ),
              ),
            ),
          ),
        ),
      ),
    ),
  );
}

pub stream_is : (n : ℕ) (text : List ℕ) → text ≡ STREAM.now → IsDemoText demo.Stream n text
unfolding stream_tree stream_source_tree
stream_is n text e = record {
  front = protocol_texts.protocol_text stream_tree;
  back = machine_texts.machine_text stream_source_tree;
  protocol = record { tree = stream_tree; canonical = stream_front; whole = refl };
  machines = (
    machine_texts.machine_text stream_source_tree,
    [],
    IsLine (machine_texts.machine_text stream_source_tree) (demos_are_shaped demo.Stream n refl).0 (record { tree = stream_source_tree; canonical = stream_back; whole = refl }),
    refl,
    refl,
  );
  whole = e ∙ without (demo_names demo.Stream n) (demo_names demo.Stream n).roles (protocol_texts.protocol_text stream_tree) (machine_texts.machine_text stream_source_tree);
}
