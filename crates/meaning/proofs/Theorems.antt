-- The theorems on the meaning, each from the file that proves it.
use Rattle.std.proofs.Common.{length, ap, ◌∙◌}
use Rattle.records.specs.declared.Sign.TheVariants.{Least, Greatest}
use Rattle.meaning.specs.Graph.{reading_system}
use Rattle.meaning.specs.Quotient.{without, quotient}
use Rattle.meaning.specs.System.{exactly}
use Rattle.meaning.specs.Theorems.{ValueExists, ValueUnique, ValueStrong, ReadingExists, ReadingUnique, ReadingsBound, CutToVariant, RemovalKeeps}
use Rattle.meaning.proofs.Cut.{cut_fits, cut_value}
use Rattle.meaning.proofs.Exists.{exists, unique, strong}
use Rattle.meaning.proofs.Iterate.{reading_solved}
use Rattle.meaning.proofs.Readings.{reading_bounds}
use Rattle.meaning.proofs.Removal.{network_closed, removal_alike, alike_to, quotient_fits}
use Rattle.meaning.proofs.Transfer.{transfer_back}
use Rattle.meaning.proofs.Unique.{agree}

pub value_exists : ValueExists
value_exists A L B N left G f = exists L B N left G f

pub value_unique : ValueUnique
value_unique A L B N left G f V W v w p i = unique L B N left G f V W v w p i

pub value_strong : ValueStrong
value_strong A L B N left G f V v = strong L B N left G f V v

pub reading_exists : ReadingExists
reading_exists A L B left G f v known = reading_solved L v known B left G f

pub reading_unique : ReadingUnique
reading_unique A L B left G f v R Q r q n i = agree L (reading_system B v G) (length B.signs) f.blocks exactly exactly R Q r q n i

pub readings_bound : ReadingsBound
readings_bound A L B N left G f V v R Q r q p i =
    ((reading_bounds L B N left G f Least R r V v p i).ordered, (reading_bounds L B N left G f Greatest Q q V v p i).ordered)

pub cut_to_variant : CutToVariant
cut_to_variant B N left G f V s v v_in = (cut_fits v v_in B N left G f, λ W t p i. cut_value v v_in B N left G f V W s t p i)

pub removal_keeps : RemovalKeeps
removal_keeps A L B N left G f p here =
    let Q = quotient A B left p (N p) G in
    let g = quotient_fits L B N left p here G f in (
      g,
      λ V W v w q i.
          unique L B N left G f V (λ r. W ((removal_alike L B N left p here G f).to r)) v
          (transfer_back L (network_closed L B N left G f) (network_closed L B N (without left p) Q g) (removal_alike L B N left p here G f) exactly W w) q i
          ∙ ap W (alike_to L B N left p here G f q),
    )
