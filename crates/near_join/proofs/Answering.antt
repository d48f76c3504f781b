-- What is promised of an answer that is there, made something else.
use Rattle.std.proofs.Common.{Result, Ok, Err, OnOk}
use Rattle.std.specs.Prelude.{IfOk}

pub on_ok : {A E : Type 0} (r : Result A E) (P Q : Type 0) → (P → Q) → OnOk r P → OnOk r Q
on_ok (Ok a) P Q f h = f h
on_ok (Err e) P Q f h = h

pub if_ok_two : {A E : Type 0} (r : Result A E) (P Q R : A → Type 0) → ((a : A) → P a → Q a → R a) → IfOk r P → IfOk r Q → IfOk r R
if_ok_two (Ok a) P Q R f h k = f a h k
if_ok_two (Err e) P Q R f h k = h

pub if_ok : {A E : Type 0} (r : Result A E) (P Q : A → Type 0) → ((a : A) → P a → Q a) → IfOk r P → IfOk r Q
if_ok (Ok a) P Q f h = f a h
if_ok (Err e) P Q f h = h
