-- `boundtext::put_bound` meets its contract: letter, fields and LF are a chain of writes (`Begun`).
use mathlib.Core.List.{[], ◌∷◌}
use Prim.Native.Char.{code}
use native.Mathlib.Omega.{arith}
use Rattle.text.specs.Written.{decimal}
use Rattle.text.proofs.PutLaws.{Begun, line_none, line_more, line_all, room_first, room_more, room_last}
use Rattle.boundtext.proofs.put_bound.Goals as goal

pub put_byte-next-requires : goal.put_byte-next-requires
put_byte-next-requires c = room_first (code "U") (decimal c.args.n ∷ decimal c.args.l ∷ decimal c.args.rounds ∷ decimal c.args.sharp ∷ []) (omega (arith, c.requires))

pub put_number_field-next-requires : goal.put_number_field-next-requires
put_number_field-next-requires c =
    let letter : Begun (code "U") [] 0 c.args.out.now c.put_byte-next.result c.put_byte-next.new.out = line_none c.put_byte-next.ensures in
    room_more letter (decimal c.args.n) (decimal c.args.l ∷ decimal c.args.rounds ∷ decimal c.args.sharp ∷ []) (omega (arith, c.requires))

pub put_number_field-next-requires-2 : goal.put_number_field-next-requires-2
put_number_field-next-requires-2 c =
    let letter : Begun (code "U") [] 0 c.args.out.now c.put_byte-next.result c.put_byte-next.new.out = line_none c.put_byte-next.ensures in
    let n_put : Begun (code "U") (decimal c.args.n ∷ []) 0 c.args.out.now c.put_number_field-next.result c.put_number_field-next.new.out = line_more (omega arith) letter c.put_number_field-next.ensures in
    room_more n_put (decimal c.args.l) (decimal c.args.rounds ∷ decimal c.args.sharp ∷ []) (omega (arith, c.requires))

pub put_number_field-next-requires-3 : goal.put_number_field-next-requires-3
put_number_field-next-requires-3 c =
    let letter : Begun (code "U") [] 0 c.args.out.now c.put_byte-next.result c.put_byte-next.new.out = line_none c.put_byte-next.ensures in
    let n_put : Begun (code "U") (decimal c.args.n ∷ []) 0 c.args.out.now c.put_number_field-next.result c.put_number_field-next.new.out = line_more (omega arith) letter c.put_number_field-next.ensures in
    let l_put : Begun (code "U") (decimal c.args.n ∷ decimal c.args.l ∷ []) 0 c.args.out.now c.put_number_field-next-2.result c.put_number_field-next-2.new.out = line_more (omega arith) n_put c.put_number_field-next-2.ensures in
    room_more l_put (decimal c.args.rounds) (decimal c.args.sharp ∷ []) (omega (arith, c.requires))

pub put_number_field-next-requires-4 : goal.put_number_field-next-requires-4
put_number_field-next-requires-4 c =
    let letter : Begun (code "U") [] 0 c.args.out.now c.put_byte-next.result c.put_byte-next.new.out = line_none c.put_byte-next.ensures in
    let n_put : Begun (code "U") (decimal c.args.n ∷ []) 0 c.args.out.now c.put_number_field-next.result c.put_number_field-next.new.out = line_more (omega arith) letter c.put_number_field-next.ensures in
    let l_put : Begun (code "U") (decimal c.args.n ∷ decimal c.args.l ∷ []) 0 c.args.out.now c.put_number_field-next-2.result c.put_number_field-next-2.new.out = line_more (omega arith) n_put c.put_number_field-next-2.ensures in
    let rounds_put : Begun (code "U") (decimal c.args.n ∷ decimal c.args.l ∷ decimal c.args.rounds ∷ []) 0 c.args.out.now c.put_number_field-next-3.result c.put_number_field-next-3.new.out = line_more (omega arith) l_put c.put_number_field-next-3.ensures in
    room_more rounds_put (decimal c.args.sharp) [] (omega (arith, c.requires))

pub put_byte-requires : goal.put_byte-requires
put_byte-requires c =
    let letter : Begun (code "U") [] 0 c.args.out.now c.put_byte-next.result c.put_byte-next.new.out = line_none c.put_byte-next.ensures in
    let n_put : Begun (code "U") (decimal c.args.n ∷ []) 0 c.args.out.now c.put_number_field-next.result c.put_number_field-next.new.out = line_more (omega arith) letter c.put_number_field-next.ensures in
    let l_put : Begun (code "U") (decimal c.args.n ∷ decimal c.args.l ∷ []) 0 c.args.out.now c.put_number_field-next-2.result c.put_number_field-next-2.new.out = line_more (omega arith) n_put c.put_number_field-next-2.ensures in
    let rounds_put : Begun (code "U") (decimal c.args.n ∷ decimal c.args.l ∷ decimal c.args.rounds ∷ []) 0 c.args.out.now c.put_number_field-next-3.result c.put_number_field-next-3.new.out = line_more (omega arith) l_put c.put_number_field-next-3.ensures in
    let sharp_put : Begun (code "U") (decimal c.args.n ∷ decimal c.args.l ∷ decimal c.args.rounds ∷ decimal c.args.sharp ∷ []) 0 c.args.out.now c.put_number_field-next-4.result c.put_number_field-next-4.new.out = line_more (omega arith) rounds_put c.put_number_field-next-4.ensures in
    room_last sharp_put (omega (arith, c.requires))

pub returns : goal.returns
returns c =
    let letter : Begun (code "U") [] 0 c.args.out.now c.put_byte-next.result c.put_byte-next.new.out = line_none c.put_byte-next.ensures in
    let n_put : Begun (code "U") (decimal c.args.n ∷ []) 0 c.args.out.now c.put_number_field-next.result c.put_number_field-next.new.out = line_more (omega arith) letter c.put_number_field-next.ensures in
    let l_put : Begun (code "U") (decimal c.args.n ∷ decimal c.args.l ∷ []) 0 c.args.out.now c.put_number_field-next-2.result c.put_number_field-next-2.new.out = line_more (omega arith) n_put c.put_number_field-next-2.ensures in
    let rounds_put : Begun (code "U") (decimal c.args.n ∷ decimal c.args.l ∷ decimal c.args.rounds ∷ []) 0 c.args.out.now c.put_number_field-next-3.result c.put_number_field-next-3.new.out = line_more (omega arith) l_put c.put_number_field-next-3.ensures in
    let sharp_put : Begun (code "U") (decimal c.args.n ∷ decimal c.args.l ∷ decimal c.args.rounds ∷ decimal c.args.sharp ∷ []) 0 c.args.out.now c.put_number_field-next-4.result c.put_number_field-next-4.new.out = line_more (omega arith) rounds_put c.put_number_field-next-4.ensures in
    line_all (omega arith) sharp_put c.put_byte.ensures
