use Rattle.std.proofs.Common.{◌≡◌, Some, length, ap, ◌∙◌}
use Rattle.calls.specs.Memory.{Memory, node_rows, edge_rows, over, written}
use Rattle.calls.specs.Opening.{book_of, formula_in, formula_graph}
use Rattle.calls.specs.declared.remainder.Remainder.{Remainder}
use Rattle.meaning.specs.Network.{Book}
use Rattle.fault.proofs.First.{passed_up}
use Rattle.writing.proofs.Enough.{room_enough}
use Rattle.opening.specs.Measured.{Measured}
use Rattle.opening.proofs.Case.{measured, read_by, formula_same, book_same, no_fault, filled_book, numbers, fault_due, fits_there}
use Rattle.opening.proofs.call.open.Goals as goal

pub check_room-requires : goal.check_room-requires
check_room-requires g c =
    let ok = c.in_ok-file.ensures in
    let f = c.in_ok-file.file in
    record { ready = read_by Measured c.args.bytes.now f.bytes.now f.header ok.1.0 ok.1.1 (measured g.met.S.Scale.lawful g.S.Scale.NUMBER c.args.bytes.now ok.0) }

pub write-count-requires : goal.write-count-requires
write-count-requires g c =
    let A = g.S.Scale.algebra in
    let L = g.met.S.Scale.lawful in
    let ok = c.in_ok-file.ensures in
    let bs = c.args.bytes.now in
    let f = c.in_ok-file.file in
    let m : Memory = record { nodes = c.args.nodes.now; edges = c.args.edges.now } in
    let none = c.in_ok-check_room.ensures.0 in
    let room = room_enough f.header.nodes (length (edge_rows (formula_in A f.bytes.now f.header))) m none in
    let known = read_by Measured bs f.bytes.now f.header ok.1.0 ok.1.1 (measured L g.S.Scale.NUMBER bs ok.0) in
    let book = filled_book L g.S.Scale.NUMBER bs f.bytes.now f.header ok.0 ok.1.0 ok.1.1 m none c.args.book.now c.fill-filled.new.self c.fill-filled.result c.fill-filled.ensures.test c.fill-filled.ensures.after in
    record { ready = (known, c.rules-rules.ensures.rules ∙ ap (λ (b : Book). b.rules) book); nodes = room.nodes; edges = room.edges; few_nodes = room.few_nodes; few_edges = room.few_edges }

pub returns-in_err-check_room-clause-result : goal.returns-in_err-check_room-clause-result
returns-in_err-check_room-clause-result g c =
    let A = g.S.Scale.algebra in
    let ok = c.in_ok-file.ensures in
    let f = c.in_ok-file.file in
    let m : Memory = record { nodes = c.args.nodes.now; edges = c.args.edges.now } in
    passed_up _ _ c.from_residual-in_err-check_room.ensures.1
    (fault_due A c.args.bytes.now f.bytes.now f.header ok.1.0 ok.1.1 g.S.Scale.NUMBER m (Some c.in_err-check_room.field-0.0) ok.0 c.in_err-check_room.ensures)

pub returns : goal.returns
returns g c =
    let A = g.S.Scale.algebra in
    let L = g.met.S.Scale.lawful in
    let n = g.S.Scale.NUMBER in
    let ok = c.in_ok-file.ensures in
    let bs = c.args.bytes.now in
    let fs = c.in_ok-file.file.bytes.now in
    let h = c.in_ok-file.file.header in
    let m : Memory = record { nodes = c.args.nodes.now; edges = c.args.edges.now } in
    let none = c.in_ok-check_room.ensures.0 in
    let book : c.fill-filled.new.self ≡ book_of bs =
    filled_book L n bs fs h ok.0 ok.1.0 ok.1.1 m none c.args.book.now c.fill-filled.new.self c.fill-filled.result c.fill-filled.ensures.test c.fill-filled.ensures.after ∙ book_same A bs fs h ok.1.0 ok.1.1 in
    let rest = numbers L n bs fs h ok.0 ok.1.0 ok.1.1 m none c.from.result c.write-count.result c.from-2.result c.all_left.result c.from.ensures c.write-count.ensures.count c.from-2.ensures c.all_left.ensures in
    let graph = formula_same A bs fs h ok.1.0 ok.1.1 in
    let nodes : c.write-count.new.nodes ≡ (written (formula_graph A bs) m).nodes = c.write-count.ensures.nodes ∙ ap (λ G. over (node_rows G) m.nodes) graph in
    let edges : c.write-count.new.edges ≡ (written (formula_graph A bs) m).edges = c.write-count.ensures.edges ∙ ap (λ G. over (edge_rows G) m.edges) graph in
    let after : Memory = record { nodes = c.write-count.new.nodes; edges = c.write-count.new.edges } in
    let both : after ≡ written (formula_graph A bs) m = λ i. record { nodes = nodes i; edges = edges i } in
    let left : Remainder = record { nodes = c.from.result; edges = c.write-count.result; initial = c.from-2.result; left = c.all_left.result } in
    record {
      result = (no_fault L n bs fs h ok.0 ok.1.0 ok.1.1 m none, rest);
      book = book;
      parts = c.fill-filled.ensures.parts;
      nodes = nodes;
      edges = edges;
      fits = fits_there L n bs fs h ok.0 ok.1.0 ok.1.1 m none c.fill-filled.new.self left after book rest both;
    }
