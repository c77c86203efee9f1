-- Every refusal: its number, its layer and its two positions (0 where none is named).
use Rattle.std.specs.Prelude.{ℕ, ◌+◌, ◌*◌}
use Rattle.fault.specs.declared.Layer.{Layer}
use Rattle.fault.specs.declared.TableFault.{TableFault}
use Rattle.fault.specs.declared.TableFault.TheVariants.{States, Transitions, Initial, Start, CutOff, Excess}
use Rattle.fault.specs.declared.Fault.{Fault}
use Rattle.fault.specs.declared.Fault.TheVariants.{ShortFile, Header, Sections, Rule, Block, Node, Edge, Table, Shape, Step, Oversize, Misfit, NotLeft, FewNodes, FewEdges, ShortBuffer, PlacesLeft}

abbrev pub number : Fault → ℕ
number (ShortFile length) = 1
number (Header byte) = 2
number (Sections length) = 3
number (Rule rule) = 4
number (Block block) = 5
number (Node node) = 6
number (Edge edge) = 7
number (Table place fault) = 8
number (Shape state) = 9
number (Step state transition) = 10
number Oversize = 11
number Misfit = 20
number NotLeft = 21
number FewNodes = 22
number FewEdges = 23
number ShortBuffer = 24
number PlacesLeft = 25

-- the part of the input that is at fault
abbrev pub layer : Fault → Layer
layer (ShortFile length) = Layer.File
layer (Header byte) = Layer.File
layer (Sections length) = Layer.File
layer (Rule rule) = Layer.File
layer (Block block) = Layer.File
layer (Node node) = Layer.File
layer (Edge edge) = Layer.File
layer (Table place fault) = Layer.Table
layer (Shape state) = Layer.Process
layer (Step state transition) = Layer.Process
layer Oversize = Layer.File
layer Misfit = Layer.Remainder
layer NotLeft = Layer.Remainder
layer FewNodes = Layer.Remainder
layer FewEdges = Layer.Remainder
layer ShortBuffer = Layer.Remainder
layer PlacesLeft = Layer.Remainder

-- the first byte, counted from the table's own start, of the field at fault
abbrev pub byte_in_table : TableFault → ℕ
byte_in_table States = 0
byte_in_table Transitions = 4
byte_in_table Initial = 8
byte_in_table (Start index) = 12 + 4 * index
byte_in_table (CutOff byte) = byte
byte_in_table (Excess byte) = byte

abbrev pub first : Fault → ℕ
first (ShortFile length) = length
first (Header byte) = byte
first (Sections length) = length
first (Rule rule) = rule
first (Block block) = block
first (Node node) = node
first (Edge edge) = edge
first (Table place fault) = place
first (Shape state) = state
first (Step state transition) = state
first Oversize = 0
first Misfit = 0
first NotLeft = 0
first FewNodes = 0
first FewEdges = 0
first ShortBuffer = 0
first PlacesLeft = 0

abbrev pub second : Fault → ℕ
second (ShortFile length) = 0
second (Header byte) = 0
second (Sections length) = 0
second (Rule rule) = 0
second (Block block) = 0
second (Node node) = 0
second (Edge edge) = 0
second (Table place fault) = byte_in_table fault
second (Shape state) = 0
second (Step state transition) = transition
second Oversize = 0
second Misfit = 0
second NotLeft = 0
second FewNodes = 0
second FewEdges = 0
second ShortBuffer = 0
second PlacesLeft = 0
