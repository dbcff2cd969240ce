use Rattle.rs_rings.specs.Rule.{machines_in_key}
use Rattle.rs_rings.proofs.tables.RingTable.look.Given as goal

abbrev pub ghosts-look_as : goal.ghosts-look_as
ghosts-look_as a =
    record {
      call = record {
        roles = a.self.now.layout.roles;
        capacity = a.self.now.layout.capacity;
        sender = a.sender.0;
        receiver = a.receiver.0;
        next = 0;
        arms = a.arms.now;
        machines = machines_in_key a.self.now.board.shared.key;
      };
    }
