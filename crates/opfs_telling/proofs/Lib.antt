mod Fronts
mod Growing
