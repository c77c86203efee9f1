-- The lines of an account: what each says of one part of a case.
use Rattle.std.specs.Prelude.{ℕ, cond, List, [], ◌++◌, codes, decimal, ◌==◌}
use Rattle.records.specs.Codes.{none, label, takes_part}
use Rattle.records.specs.declared.Kind.{Kind}
use Rattle.records.specs.declared.Kind.TheVariants.{AnyOf, AllOf, Fixed}
use Rattle.records.specs.declared.Node.{Node}
use Rattle.records.specs.declared.Rule.{Rule}
use Rattle.records.specs.declared.Sign.{Sign}
use Rattle.records.specs.Words.{kind_word, sign_word}
use Rattle.format.specs.declared.file.FormulaEdge.{FormulaEdge}
use Rattle.lines.specs.Gathered.{gathered}
use Rattle.lines.specs.Hex.{hex}

-- what the rule asks of place p, where p takes part
abbrev pub part : Rule → ℕ → List ℕ
part r p =
    cond (takes_part r p) (codes "place " ++ (decimal p ++ (codes " by " ++ (decimal (label r p) ++ codes ", ")))) []

abbrev pub rule_line : ℕ → Rule → List ℕ
rule_line i r =
    codes "rule " ++ (decimal i ++ (codes ": " ++ (gathered 8 (part r) ++ (codes "result " ++ (decimal r.result ++ codes "\n")))))

abbrev pub block_line : ℕ → Sign → List ℕ
block_line b s = codes "block " ++ (decimal b ++ (codes ": " ++ (sign_word s ++ codes "\n")))

-- a node with edges: of which kind it is, and where its edges stand
abbrev pub joint_line : List ℕ → ℕ → Node → List ℕ
joint_line word i n =
    codes "node " ++ (decimal i ++ (codes ": " ++ (word ++ (codes ", block " ++ (decimal n.block ++ (codes ", " ++ (decimal n.count ++ (codes " edges from " ++ (decimal n.first ++ codes "\n")))))))))

abbrev pub fixed_line : ℕ → Node → List ℕ
fixed_line i n =
    codes "node " ++ (decimal i ++ (codes ": fixed " ++ (hex n.value ++ (codes ", block " ++ (decimal n.block ++ codes "\n")))))

abbrev pub line_of_kind : Kind → ℕ → Node → List ℕ
line_of_kind AnyOf i n = joint_line (kind_word AnyOf) i n
line_of_kind AllOf i n = joint_line (kind_word AllOf) i n
line_of_kind Fixed i n = fixed_line i n

abbrev pub node_line : ℕ → Node → List ℕ
node_line i n = line_of_kind n.kind i n

abbrev pub edge_line : ℕ → FormulaEdge → List ℕ
edge_line e f =
    cond (f.label == none)
    (codes "edge " ++ (decimal e ++ (codes ": plain to node " ++ (decimal f.target ++ codes "\n"))))
    (codes "edge " ++ (decimal e ++ (codes ": label " ++ (decimal f.label ++ (codes " to node " ++ (decimal f.target ++ codes "\n"))))))

-- the process of place p, by its numbers of states and transitions and its initial state
abbrev pub place_line : ℕ → ℕ → ℕ → ℕ → List ℕ
place_line p m n i =
    codes "place " ++ (decimal p ++ (codes ": " ++ (decimal m ++ (codes " states, " ++ (decimal n ++ (codes " transitions, initial " ++ (decimal i ++ codes "\n")))))))
