use Rattle.std.proofs.Common.{◌≡◌, [], ◌∷◌, get_or, sym, ap, ◌∙◌, subst, rules}
use Rattle.instruction.specs.Layout.{bytes_of, instruction_in, IsLaidOut, IsEncodable}
use Rattle.instruction.proofs.Trips.{there, laid-out}
use Rattle.instruction.proofs.Instruction.to_bytes.Goals as goal

pub returns : goal.returns
returns c =
    let a = c.to_little_endian.ensures in
    let b = c.to_little_endian-2.ensures in
    let i = c.to_little_endian-3.ensures in
    let u = c.to_little_endian-4.ensures in
    let t = c.to_little_endian-5.ensures in
    let q = c.to_little_endian-6.ensures in
    let m = c.to_little_endian-7.ensures in
    let f : IsEncodable c.args.self = record {
      kind = search rules;
      account = search rules;
      counterparty = search rules;
      item = search rules;
      currency = search rules;
      trade = search rules;
      quantity = search rules;
      amount = search rules;
    } in
    let e : _ ≡ bytes_of c.args.self = λ k. c.args.self.kind ∷ 0 ∷ get_or (a k) 0 0 ∷ get_or (a k) 1 0 ∷ get_or
    (b k) 0 0 ∷ get_or (b k) 1 0 ∷ get_or (i k) 0 0 ∷ get_or (i k) 1 0
    ∷ get_or (u k) 0 0 ∷ get_or (u k) 1 0 ∷ 0 ∷ 0 ∷ get_or (t k) 0 0 ∷ get_or (t k) 1 0 ∷ get_or (t k) 2 0 ∷ get_or
    (t k) 3 0
    ∷ get_or (q k) 0 0 ∷ get_or (q k) 1 0 ∷ get_or (q k) 2 0 ∷ get_or (q k) 3 0 ∷ get_or (q k) 4 0 ∷ get_or
    (q k) 5 0 ∷ get_or (q k) 6 0 ∷ get_or (q k) 7 0
    ∷ get_or (m k) 0 0 ∷ get_or (m k) 1 0 ∷ get_or (m k) 2 0 ∷ get_or (m k) 3 0 ∷ get_or (m k) 4 0 ∷ get_or
    (m k) 5 0 ∷ get_or (m k) 6 0 ∷ get_or (m k) 7 0 ∷ [] in
    record {
      value = e;
      laid_out = subst (λ bs. IsLaidOut bs c.args.self) (sym e) (laid-out c.args.self);
      read_back = ap instruction_in e ∙ there c.args.self f;
    }
