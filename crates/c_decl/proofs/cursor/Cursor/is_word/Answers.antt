use Rattle.c_decl.proofs.cursor.Cursor.is_word.Goals as goal

pub returns-in-Mark : goal.returns-in-Mark
returns-in-Mark c = rw c.in-Mark.is (c.is_word.ensures c.args.self.now.state c.args.typed)
