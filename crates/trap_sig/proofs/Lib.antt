mod First
mod Args
mod Ints
mod Lending
mod Shape
mod HasShape
