use Rattle.std.proofs.Common.{[]}
use Rattle.rs_rings.specs.Rule.{machines_in_key}
use Rattle.rs_rings.proofs.tables.RingTable.give.Given as goal

abbrev pub ghosts-give_as : goal.ghosts-give_as
ghosts-give_as a =
    record {
      call = record {
        roles = a.self.now.layout.roles;
        capacity = a.self.now.layout.capacity;
        sender = a.sender.0;
        receiver = a.receiver.0;
        next = a.next;
        arms = [];
        machines = machines_in_key a.self.now.board.shared.key;
      };
    }
